use Prim.Native.Nat.{ℕ, ◌<◌}
use Rattle.audits_post.specs.Inner.{Fits}
use Rattle.audits_post.proofs.all_fit.Given as goal

abbrev pub invariant-loop-p : goal.invariant-loop-p
invariant-loop-p l = (k : ℕ) → k < l.p → Fits l.counts l.places l.size l.n k
