-- What receiving a datagram answers (document 01, sections 4 to 6).
-- Assumes nothing.
use Rattle.std.specs.Prelude.{◌≡◌, Bool, true, List, ℕ, ◌≤◌, ◌<◌, length}
use Rattle.message.specs.Message.{Address}
use Rattle.protocol.specs.State.{Host}
use Rattle.protocol.specs.Receive.{receive}
use Rattle.hosts.specs.declared.State.{State}
use Rattle.hosts.specs.Memory.{Memory}
use Rattle.hosts.specs.Keeps.{limits_of, Keeps}
use Rattle.incoming.specs.declared.Received.TheVariants.{Unfit}
use Rattle.incoming.specs.declared.Arrival.{Arrival}
use Rattle.incoming.specs.Answers.{ack_length, keeps_all, Tested, Receives}

-- Whatever host memory keeps, this is its step, with the room test's own answer. Where the host stays as it was, so does all memory. Only memory for
-- an Ack that is too short makes the step refuse
pub record AfterReceive (m : Memory) (k : State) (room : List ℕ) (a : Address) (s ack : List ℕ) (r : Arrival) (m' : Memory) (room' ack' : List ℕ)
    : Type 0 where
  pub is : (h : Host) → Keeps m k room h → ack_length ≤ length ack
      → (roomy : Bool) × Tested (limits_of m k room) h a s roomy × Receives m' r.state room' a ack' r.outcome (receive roomy h a s)
  pub same : keeps_all r.outcome ≡ true → (m' ≡ m) × (r.state ≡ k) × (room' ≡ room)
  pub unfit : length ack < ack_length → r.outcome ≡ Unfit
  pub fit : ack_length ≤ length ack → r.outcome ≡ Unfit → ⊥
