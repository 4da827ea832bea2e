use mathlib.Core.Path.{◌≡◌}
use Prim.Native.Nat.{ℕ, suc, ◌<◌}
use Rattle.delivery.specs.Memory.{mark_at, number_at}
use Rattle.resending.proofs.find.Given as goal

abbrev pub invariant-loop-p : goal.invariant-loop-p
invariant-loop-p l = (k : ℕ) → k < l.p → number_at l.places k ≡ l.number → mark_at l.places k ≡ suc l.peer → ⊥
