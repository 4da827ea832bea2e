-- What all answers share: the host that memory keeps, its step by the definition, the Ack that is written.
-- Assumes nothing.
use mathlib.Core.Path.{◌≡◌, refl, ap, ◌∙◌, subst}
use mathlib.Core.Bool.{Bool}
use mathlib.Core.List.{List, []}
use Rattle.std.specs.Prelude.{Result, Ok, Err}
use mathlib.Core.Option.{Option, none, some}
use Prim.Native.Nat.{ℕ, suc, ◌≤◌, ◌<◌}
use native.Mathlib.Omega.{arith}
use lib.ListN.{length, take}
use lib.Dec.{eqb, leb}
use Rattle.format.specs.Number.{width, numbers}
use Rattle.format.proofs.Numbers.{length_digits}
use Rattle.memory.proofs.Parts.{placed_in}
use Rattle.message.specs.Message.{Address, Body, Datagram, message, ack}
use Rattle.message.specs.Table.{written}
use Rattle.message.specs.Answers.{AfterWrite}
use Rattle.message.specs.declared.Refused.{Refused}
use Rattle.message.specs.declared.Refused.TheVariants.{NoRoom, Invalid as Unwritable}
use Rattle.decoding.specs.Decode.{read}
use Rattle.decoding.proofs.Decided.{same_refl}
use Rattle.protocol.specs.State.{Host}
use Rattle.protocol.specs.Delivery.{Step, still}
use Rattle.protocol.specs.Receive.{on_number, on_datagram, receive}
use Rattle.hosts.specs.declared.State.{State}
use Rattle.hosts.specs.Memory.{Memory}
use Rattle.hosts.specs.Keeps.{Keeps}
use Rattle.incoming.specs.declared.Received.{Received}
use Rattle.incoming.specs.declared.Received.TheVariants.{Full, Invalid, Elsewhere, Taken, Unreceived, Again, Future, Arrived, Stale, Unfit}
use Rattle.incoming.specs.declared.Arrival.{Arrival}
use Rattle.incoming.specs.Answers.{ack_length, outcome_of, sends_of, Receives}
use Rattle.incoming.specs.Handled.{Handled}

-- what was said of an answer holds of one that is equal to it
pub handled_as : {known : Host → Type 0} {m : Memory} {k : State} {room : List ℕ} {a : Address} {s ack : List ℕ} {r t : Arrival} {m' : Memory}
    {room' ack' : List ℕ} → t ≡ r → Handled known m k room a s ack r m' room' ack' → Handled known m k room a s ack t m' room' ack'
handled_as e A = rw e A

-- every answer but Unfit
abbrev Fit : Received → Type 0
Fit Unfit = ⊥
Fit Full = Unit
Fit Invalid = Unit
Fit Elsewhere = Unit
Fit Taken = Unit
Fit Unreceived = Unit
Fit Again = Unit
Fit Future = Unit
Fit Arrived = Unit
Fit Stale = Unit

pub not_unfit : (o : Received) → Fit o → o ≡ Unfit → ⊥
not_unfit o f e = subst Fit e f

-- ---- the Ack

length_ack : (n : ℕ) → length (written (ack n)) ≡ ack_length
length_ack n = ap suc (length_digits width n)

-- it stands at the front, if there is memory for it
pub ack_written : (n : ℕ) (d : List ℕ) (r : Result ℕ Refused) (d' : List ℕ) → AfterWrite (ack n) d r d' → n < numbers → ack_length ≤ length d
    → take ack_length d' ≡ written (ack n)
ack_written n d (Ok x) d' A q f =
    let e = length_ack n in
    subst (λ (l : ℕ). take l d' ≡ written (ack n)) e (rw A.is.2 (placed_in d 0 (written (ack n)) (omega (arith, e, f))))
ack_written n d (Err NoRoom) d' A q f = absurd (omega (arith, length_ack n, f, A.is.1))
ack_written n d (Err Unwritable) d' A q f = absurd (A.is.1 (omega arith, q))

-- ---- the step

module _ {m : Memory} {k : State} {room : List ℕ} {h : Host} (K : Keeps m k room h) where
  pub room_free : h.room ≡ none → k.len ≡ 0
  room_free e = rw e at K.room_is

-- a step with which nothing changes and nothing is sent
module _ {m : Memory} {k : State} {room : List ℕ} (a : Address) (ack : List ℕ) {h : Host} (K : Keeps m k room h) where
  pub stays : (o : Received) → sends_of a ack o ≡ [] → (t : Step) → t ≡ still h (outcome_of o) → Receives m k room a ack o t
  stays o n t e = rw e (record { keeps = K; outcome = refl; sends = n })

-- the definition's step, by what the datagram is
module _ (h : Host) (a : Address) (s : List ℕ) (free : h.room ≡ none) where
  pub step_read : (roomy : Bool) (o : Option Datagram) → read s ≡ o → receive roomy h a s ≡ on_datagram roomy h a o
  step_read roomy o q = rw (free, q) refl

  -- .. and, if it is a message for this host, by its number
  pub step_number : (roomy : Bool) (n : ℕ) (b : Body) → read s ≡ some (message n h.me b) → (new old : Bool) → eqb n (suc (h.received a)) ≡ new
      → leb n (h.received a) ≡ old → receive roomy h a s ≡ on_number new old roomy h a n b
  step_number roomy n b q new old e f = step_read roomy (some (message n h.me b)) q ∙ rw (same_refl h.me, e, f) refl
