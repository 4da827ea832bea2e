-- A refusal's number tells nothing else.
-- Assumes nothing.
use mathlib.Core.Path.{◌≡◌, refl, sym, ap, ◌∙◌}
use mathlib.Core.Bool.{false, false≢true}
use native.Mathlib.Omega.{arith}
use Rattle.hosts.specs.declared.Processed.{Processed}
use Rattle.hosts.specs.declared.Processed.TheVariants.{Idle, Stuck, Replied, Redirected, Dropped, Unnumbered, Accepted, Handed}
use Rattle.incoming.specs.declared.Received.{Received}
use Rattle.incoming.specs.declared.Received.TheVariants.{Full, Invalid, Elsewhere, Taken, Unreceived, Again, Future, Arrived, Stale, Unfit as TooShort}
use Rattle.rounds.specs.declared.Turned.{Turned}
use Rattle.rounds.specs.declared.Turned.TheVariants.{Came, Did, Resent, Waits, Unfit as NotLent}
use Rattle.rounds.specs.Answers.{unfit as tooShort, refuses}
use Rattle.codes.specs.Codes.{unfit, received_code, processed_code, turned_code}

pub received_refused : (o : Received) → received_code o ≡ unfit → o ≡ TooShort
received_refused Full e = absurd (omega (arith, e))
received_refused Invalid e = absurd (omega (arith, e))
received_refused Elsewhere e = absurd (omega (arith, e))
received_refused Taken e = absurd (omega (arith, e))
received_refused Unreceived e = absurd (omega (arith, e))
received_refused Again e = absurd (omega (arith, e))
received_refused Future e = absurd (omega (arith, e))
received_refused Arrived e = absurd (omega (arith, e))
received_refused Stale e = absurd (omega (arith, e))
received_refused TooShort e = refl

processed_refused : (o : Processed) → processed_code o ≡ unfit → ⊥
processed_refused Idle e = omega (arith, e)
processed_refused Stuck e = omega (arith, e)
processed_refused (Replied p) e = omega (arith, e)
processed_refused (Redirected p) e = omega (arith, e)
processed_refused Dropped e = omega (arith, e)
processed_refused Unnumbered e = omega (arith, e)
processed_refused Accepted e = omega (arith, e)
processed_refused (Handed p) e = omega (arith, e)

pub turned_refused : (o : Turned) → refuses o ≡ false → turned_code o ≡ unfit → ⊥
turned_refused (Came r) f e = false≢true (sym f ∙ ap (λ (o : Received). tooShort o) (received_refused r e))
turned_refused (Did r) f e = processed_refused r e
turned_refused (Resent n) f e = omega (arith, e)
turned_refused Waits f e = omega (arith, e)
turned_refused NotLent f e = false≢true (sym f)
