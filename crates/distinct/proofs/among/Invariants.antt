use mathlib.Core.Path.{◌≡◌}
use Prim.Native.Nat.{ℕ, ◌<◌}
use lib.ListN.{length}
use Rattle.strings.specs.Strings.{WellFormed}
use Rattle.distinct.specs.Distinct.{string}
use Rattle.distinct.proofs.among.Given as goal

abbrev pub invariant-loop-i : goal.invariant-loop-i
invariant-loop-i l = WellFormed l.ats l.lens l.m (length l.bytes) × ((k : ℕ) → k < l.i → string l.ats l.lens l.bytes k ≡ l.name → ⊥)
