use Prim.Native.Nat.{ℕ, suc, ◌≤◌, ◌<◌}
use Rattle.delivery.specs.Memory.{acknowledged_of, capacity}
use Rattle.audits_post.specs.Inner.{Stands}
use Rattle.audits_post.proofs.told.Given as goal

abbrev pub invariant-loop-number : goal.invariant-loop-number
invariant-loop-number l = (x : ℕ) → acknowledged_of l.counts l.i < x → x ≤ l.number → (p : ℕ) × (p < capacity l.places) × Stands l.places (suc l.i) x p
