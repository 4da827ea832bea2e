-- What a message that arrives while the room is free is answered.
-- Assumes nothing.
use Rattle.std.specs.Prelude.{◌≡◌, Bool, true, List, ℕ, suc, ◌≤◌, length}
use Rattle.std.proofs.Math.Option.{none, some}
use Rattle.message.specs.Message.{Address, message}
use Rattle.message.specs.declared.BodyView.{BodyView}
use Rattle.message.specs.View.{body_of, BodyIn}
use Rattle.decoding.specs.Decode.{read}
use Rattle.protocol.specs.State.{Host}
use Rattle.protocol.specs.Receive.{receive}
use Rattle.hosts.specs.declared.State.{State}
use Rattle.hosts.specs.Memory.{Memory}
use Rattle.hosts.specs.Keeps.{limits_of, Keeps}
use Rattle.incoming.specs.declared.Received.{Received}
use Rattle.incoming.specs.declared.Received.TheVariants.{Unfit}
use Rattle.incoming.specs.declared.Arrival.{Arrival}
use Rattle.incoming.specs.Answers.{ack_length, keeps_all, Tested, Receives}

-- the numbers stay as they are, and that became of the datagram
abbrev pub leaving : State → Received → Arrival
leaving k o = record { state = k; outcome = o; place = 0 }

-- The room is free and there is memory for an Ack: for each host of which that is known, the answer is the definition's
pub record Handled (known : Host → Type 0) (m : Memory) (k : State) (room : List ℕ) (a : Address) (s ack : List ℕ) (r : Arrival) (m' : Memory)
    (room' ack' : List ℕ) : Type 0 where
  pub is : (h : Host) → known h → Keeps m k room h → h.room ≡ none → ack_length ≤ length ack
      → (roomy : Bool) × Tested (limits_of m k room) h a s roomy × Receives m' r.state room' a ack' r.outcome (receive roomy h a s)
  pub same : keeps_all r.outcome ≡ true → (m' ≡ m) × (r.state ≡ k) × (room' ≡ room)
  pub fit : r.outcome ≡ Unfit → ⊥

-- the datagram is a message for the host, and the next from its sender
pub record Next (a : Address) (s : List ℕ) (n : ℕ) (b : BodyView) (h : Host) : Type 0 where
  pub is : read s ≡ some (message n h.me (body_of s b))
  pub body_in : BodyIn s b
  pub next : n ≡ suc (h.received a)
