-- What a turn answers: one of the three kinds of step, in rotation (document 01, section 5).
-- Assumes nothing.
use Rattle.std.specs.Prelude.{◌≡◌, Bool, true, false, List, ℕ, ◌≤◌, length}
use Rattle.message.specs.Message.{Address}
use Rattle.delivery.specs.Memory.{capacity}
use Rattle.protocol.specs.State.{Host}
use Rattle.protocol.specs.Turn.{kind, turn}
use Rattle.hosts.specs.declared.State.{State}
use Rattle.hosts.specs.Memory.{Memory}
use Rattle.hosts.specs.Limits.{fits_room}
use Rattle.hosts.specs.Keeps.{limits_of, Keeps}
use Rattle.incoming.specs.Answers.{ack_length, Tested}
use Rattle.rounds.specs.declared.Turned.TheVariants.{Unfit}
use Rattle.rounds.specs.declared.Ended.{Ended}
use Rattle.rounds.specs.Answers.{refuses, Turns}
use Rattle.arriving.specs.Answers.{arriving}

-- what was lent for an Ack and for the places of what is sent again is long enough
pub record Lent (m : Memory) (ack out : List ℕ) : Type 0 where
  pub ack_fits : ack_length ≤ length ack
  pub out_fits : capacity m.places ≤ length out

-- Whatever host memory keeps, this is its turn, with the room test's own answer if a datagram is received and whether a value fits as the table's
-- places tell it; or what was lent beside the host's memory is too short and nothing has changed
pub record AfterTurn (m : Memory) (k : State) (room : List ℕ) (arrived : Bool) (a : Address) (s ack out : List ℕ) (r : Ended) (m' : Memory)
    (room' ack' out' : List ℕ) : Type 0 where
  pub is : (h : Host) → Keeps m k room h → Lent m ack out
      → (roomy : Bool) × (kind h ≡ 0 → arrived ≡ true → Tested (limits_of m k room) h a s roomy)
      × Turns m' r.state room' a ack' out' r.outcome (turn roomy (fits_room (length m.slots) h h.room) h (arriving arrived a s))
  pub fit : Lent m ack out → refuses r.outcome ≡ false
  pub refused : (Lent m ack out → ⊥) → (r.outcome ≡ Unfit) × (r.state ≡ k) × (m' ≡ m) × (room' ≡ room) × (ack' ≡ ack) × (out' ≡ out)
