use mathlib.Core.Path.{◌≡◌}
use Prim.Native.Nat.{ℕ, ◌<◌}
use Rattle.distinct.specs.Distinct.{string}
use Rattle.starting.proofs.place.Given as goal

abbrev pub invariant-loop-i : goal.invariant-loop-i
invariant-loop-i l = (k : ℕ) → k < l.i → string l.ats l.lens l.bytes k ≡ l.name → ⊥
