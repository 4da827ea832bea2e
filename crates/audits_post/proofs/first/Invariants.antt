use Prim.Native.Nat.{ℕ, ◌<◌}
use Rattle.audits_post.specs.Inner.{Stands}
use Rattle.audits_post.proofs.first.Given as goal

abbrev pub invariant-loop-p : goal.invariant-loop-p
invariant-loop-p l = (k : ℕ) → k < l.p → Stands l.places l.mark l.number k → ⊥
