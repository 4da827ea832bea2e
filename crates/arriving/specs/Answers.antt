-- A turn for receiving (document 01, section 5).
-- Assumes nothing.
use Rattle.std.specs.Prelude.{◌≡◌, Bool, true, false, List, ℕ, ◌≤◌, length}
use Rattle.std.proofs.Math.Option.{Option, none, some}
use Rattle.message.specs.Message.{Address}
use Rattle.protocol.specs.State.{Host}
use Rattle.protocol.specs.Turn.{arriving as on_arrival, ended}
use Rattle.hosts.specs.declared.State.{State}
use Rattle.hosts.specs.Memory.{Memory}
use Rattle.hosts.specs.Keeps.{limits_of, Keeps}
use Rattle.incoming.specs.Answers.{ack_length, Tested}
use Rattle.rounds.specs.declared.Ended.{Ended}
use Rattle.rounds.specs.Answers.{refuses, refusal, Turns}

-- the datagram that has arrived, if one has
abbrev pub arriving : Bool → Address → List ℕ → Option (Address × List ℕ)
arriving true a s = some (a, s)
arriving false a s = none

-- a turn for receiving; or too little was lent for an Ack, and nothing has changed
pub record AfterArrive (m : Memory) (k : State) (room : List ℕ) (arrived : Bool) (a : Address) (s ack : List ℕ) (r : Ended) (m' : Memory) (room' ack' : List ℕ)
    : Type 0 where
  pub is : (h : Host) → Keeps m k room h → ack_length ≤ length ack → (out : List ℕ)
      → (roomy : Bool) × (arrived ≡ true → Tested (limits_of m k room) h a s roomy)
      × Turns m' r.state room' a ack' out r.outcome (ended (on_arrival roomy h (arriving arrived a s)))
  pub fit : ack_length ≤ length ack → refuses r.outcome ≡ false
  pub refused : (ack_length ≤ length ack → ⊥) → (r ≡ refusal k) × (m' ≡ m) × (room' ≡ room) × (ack' ≡ ack)
