-- A datagram is received, or none has arrived, and the count of turns goes on.
-- Assumes nothing.
use mathlib.Core.Path.{◌≡◌, refl, sym, ap, ◌∙◌, subst}
use mathlib.Core.Bool.{Bool, true, false, false≢true}
use mathlib.Core.List.{List}
use Prim.Native.Nat.{ℕ, ◌≤◌}
use lib.ListN.{length}
use Rattle.message.specs.Message.{Address}
use Rattle.protocol.specs.Delivery.{Step}
use Rattle.protocol.specs.Turn.{ended}
use Rattle.hosts.specs.declared.State.{State}
use Rattle.hosts.specs.Memory.{Memory}
use Rattle.incoming.specs.declared.Received.{Received}
use Rattle.incoming.specs.declared.Received.TheVariants.{Full, Invalid, Elsewhere, Taken, Unreceived, Again, Future, Arrived, Stale, Unfit as TooShort}
use Rattle.incoming.specs.declared.Arrival.{Arrival}
use Rattle.incoming.specs.Answers.{ack_length, Receives}
use Rattle.receiving.specs.Answers.{AfterReceive}
use Rattle.rounds.specs.declared.Turned.TheVariants.{Came, Waits}
use Rattle.rounds.specs.declared.Ended.{Ended}
use Rattle.rounds.specs.Answers.{unfit, Turns, over_of, refusal}
use Rattle.rounds.proofs.Laws.{keeps_over, waited}
use Rattle.arriving.specs.Answers.{AfterArrive}

module _ {m : Memory} {k : State} {room : List ℕ} {a : Address} {ack : List ℕ} where
  -- a datagram was received
  pub came : {r : Received} {s : Step} → Receives m k room a ack r s → (out : List ℕ) → Turns m (over_of k) room a ack out (Came r) (ended s)
  came {r} {s} R out = record { keeps = keeps_over m k room s.state R.keeps; outcome = R.outcome; sends = R.sends }

-- what is not refused is told so
fits : (r : Received) → (r ≡ TooShort → ⊥) → unfit r ≡ false
fits Full n = refl
fits Invalid n = refl
fits Elsewhere n = refl
fits Taken n = refl
fits Unreceived n = refl
fits Again n = refl
fits Future n = refl
fits Arrived n = refl
fits Stale n = refl
fits TooShort n = absurd (n refl)

-- no datagram has arrived
pub none_arrived : {m : Memory} {k : State} {room : List ℕ} {a : Address} {s ack : List ℕ} {arrived : Bool} {r : Ended} {f : State} → ack_length ≤ length ack → arrived ≡ false
    → f ≡ over_of k → r ≡ record { state = f; outcome = Waits; place = 0 } → AfterArrive m k room arrived a s ack r m room ack
none_arrived {m} {k} {room} {a} {s} {ack} {arrived} l e q d =
    subst (λ (r : Ended). AfterArrive m k room arrived a s ack r m room ack) (ap (λ (g : State). record { state = g; outcome = Waits; place = 0 }) (sym q) ∙ sym d)
    (subst (λ (t : Bool). AfterArrive m k room t a s ack (record { state = over_of k; outcome = Waits; place = 0 }) m room ack) (sym e)
    (record { is = λ h K f out. (true, (λ q. absurd (false≢true q)), waited h K out); fit = λ f. refl; refused = λ n. absurd (n l) }))

-- one has
pub one_arrived : {m m' : Memory} {k : State} {room room' : List ℕ} {a : Address} {s ack ack' : List ℕ} {arrived : Bool} {d : Arrival} {f : State}
    → ack_length ≤ length ack → arrived ≡ true → AfterReceive m k room a s ack d m' room' ack' → f ≡ over_of d.state
    → AfterArrive m k room arrived a s ack (record { state = f; outcome = Came d.outcome; place = d.place }) m' room' ack'
one_arrived {m} {m'} {k} {room} {room'} {a} {s} {ack} {ack'} {arrived} {d} {f} l e A q =
    subst (λ (g : State). AfterArrive m k room arrived a s ack (record { state = g; outcome = Came d.outcome; place = d.place }) m' room' ack') (sym q)
    (subst (λ (t : Bool). AfterArrive m k room t a s ack (record { state = over_of d.state; outcome = Came d.outcome; place = d.place }) m' room' ack') (sym e)
    (record { is = λ h K f out. let R = A.is h K f in (R.0, (λ q. R.1), came R.2 out); fit = λ f. fits d.outcome (A.fit f); refused = λ n. absurd (n l) }))

-- too little was lent
pub not_lent : {m : Memory} {k : State} {room : List ℕ} {arrived : Bool} {a : Address} {s ack : List ℕ} {r : Ended} → (ack_length ≤ length ack → ⊥)
    → r ≡ refusal k → AfterArrive m k room arrived a s ack r m room ack
not_lent n q = record { is = λ h K f. absurd (n f); fit = λ f. absurd (n f); refused = λ f. (q, refl, refl, refl) }
