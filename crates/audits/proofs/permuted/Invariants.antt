use mathlib.Core.Path.{◌≡◌}
use Prim.Native.Nat.{ℕ, ◌<◌}
use lib.ListN.{length, get_or}
use Rattle.audits.proofs.permuted.Given as goal

abbrev pub invariant-loop-i : goal.invariant-loop-i
invariant-loop-i l = ((k : ℕ) → k < l.i → get_or l.slots k 0 < length l.slots)
    × ((k : ℕ) → k < l.i → (j : ℕ) → j < k → get_or l.slots j 0 ≡ get_or l.slots k 0 → ⊥)
