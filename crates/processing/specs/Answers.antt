-- What processing the message in the room answers (document 01, section 5).
-- Assumes nothing.
use Rattle.std.specs.Prelude.{◌≡◌, List, ℕ, length}
use Rattle.protocol.specs.State.{Host}
use Rattle.protocol.specs.Delivery.{Step}
use Rattle.protocol.specs.Process.{process}
use Rattle.hosts.specs.declared.State.{State}
use Rattle.hosts.specs.declared.Done.{Done}
use Rattle.hosts.specs.declared.Processed.{Processed}
use Rattle.hosts.specs.Memory.{Memory}
use Rattle.hosts.specs.Limits.{fits_room}
use Rattle.hosts.specs.Keeps.{Keeps}
use Rattle.hosts.specs.Answers.{outcome_of, sends_of}

-- memory keeps the host after the definition's step, and the outcome and the datagrams are the definition's
pub record Processes (m : Memory) (k : State) (room : List ℕ) (r : Processed) (s : Step) : Type 0 where
  pub keeps : Keeps m k room s.state
  pub outcome : outcome_of r ≡ s.outcome
  pub sends : sends_of m k r ≡ s.sends

-- Whatever host memory keeps, this is its step; whether the value of a Set fits is told by the table's places. Where the definition's
-- step changes nothing (there is no message, or the count of transfers is at its limit), all memory is as it was
pub record AfterProcess (m : Memory) (k : State) (room : List ℕ) (r : Done) (m' : Memory) : Type 0 where
  pub is : (h : Host) → Keeps m k room h → Processes m' r.state room r.outcome (process (fits_room (length m.slots) h h.room) h)
  pub same : (h : Host) → Keeps m k room h → (process (fits_room (length m.slots) h h.room) h).state ≡ h → (m' ≡ m) × (r.state ≡ k)
