use Prim.Native.Nat.{ℕ, ◌<◌}
use Rattle.audits_post.specs.Inner.{Told}
use Rattle.audits_post.proofs.all_told.Given as goal

abbrev pub invariant-loop-i : goal.invariant-loop-i
invariant-loop-i l = (k : ℕ) → k < l.i → Told l.counts l.places k
