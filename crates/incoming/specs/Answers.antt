-- What a datagram that arrives is answered (document 01, sections 4 to 6): the outcome, the Ack, the host after it.
-- Assumes nothing.
use Rattle.std.specs.Prelude.{◌≡◌, Bool, true, false, List, [], ◌∷◌, ℕ, suc, ◌+◌, take}
use Rattle.std.proofs.Math.Option.{none, some}
use Rattle.format.specs.Number.{width}
use Rattle.message.specs.Message.{Address, Body, message}
use Rattle.decoding.specs.Decode.{read}
use Rattle.protocol.specs.State.{Host}
use Rattle.protocol.specs.Delivery.{Packet, Step, Outcome, full, invalid, elsewhere, taken, unreceived, again, future, arrived, stale}
use Rattle.hosts.specs.declared.State.{State}
use Rattle.hosts.specs.Memory.{Memory}
use Rattle.hosts.specs.Limits.{Limits, Roomy}
use Rattle.hosts.specs.Keeps.{Keeps}
use Rattle.incoming.specs.declared.Received.{Received}
use Rattle.incoming.specs.declared.Received.TheVariants.{Full, Invalid, Elsewhere, Taken, Unreceived, Again, Future, Arrived, Stale, Unfit}

-- the bytes of an Ack
abbrev pub ack_length : ℕ
ack_length = 1 + width

-- the outcome by the definition's name. (Unfit is none of them: the step was not taken)
abbrev pub outcome_of : Received → Outcome
outcome_of Full = full
outcome_of Invalid = invalid
outcome_of Elsewhere = elsewhere
outcome_of Taken = taken
outcome_of Unreceived = unreceived
outcome_of Again = again
outcome_of Future = future
outcome_of Arrived = arrived
outcome_of Stale = stale
outcome_of Unfit = full

-- the Ack that is handed out to the address a, if there is one
abbrev pub sends_of : Address → (ack : List ℕ) → Received → List Packet
sends_of a ack Full = []
sends_of a ack Invalid = []
sends_of a ack Elsewhere = []
sends_of a ack Taken = record { to = a; bytes = take ack_length ack } ∷ []
sends_of a ack Unreceived = []
sends_of a ack Again = record { to = a; bytes = take ack_length ack } ∷ []
sends_of a ack Future = []
sends_of a ack Arrived = []
sends_of a ack Stale = []
sends_of a ack Unfit = []

-- the host itself stays as it was
abbrev pub keeps_all : Received → Bool
keeps_all Full = true
keeps_all Invalid = true
keeps_all Elsewhere = true
keeps_all Taken = false
keeps_all Unreceived = true
keeps_all Again = true
keeps_all Future = true
keeps_all Arrived = false
keeps_all Stale = true
keeps_all Unfit = true

-- roomy is the answer of the room test for a message that would be taken, being for this host, the next from its sender and come while the room is
-- free: exactly if there is room for all that it may need. Of anything else the test is not asked
abbrev pub Tested : Limits → Host → Address → List ℕ → Bool → Type 0
Tested L h a s roomy =
    (n : ℕ) (b : Body) → h.room ≡ none → read s ≡ some (message n h.me b) → n ≡ suc (h.received a)
    → (roomy ≡ true → Roomy L h (record { from = a; number = n; body = b }) s)
    × (roomy ≡ false → Roomy L h (record { from = a; number = n; body = b }) s → ⊥)

-- memory keeps the host after the definition's step, and the outcome and the Ack are the definition's
pub record Receives (m : Memory) (k : State) (room : List ℕ) (a : Address) (ack : List ℕ) (r : Received) (s : Step) : Type 0 where
  pub keeps : Keeps m k room s.state
  pub outcome : outcome_of r ≡ s.outcome
  pub sends : sends_of a ack r ≡ s.sends
