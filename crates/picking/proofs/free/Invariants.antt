use Prim.Native.Nat.{ℕ, ◌<◌}
use Rattle.delivery.specs.Memory.{mark_at}
use Rattle.picking.proofs.free.Given as goal

abbrev pub invariant-loop-p : goal.invariant-loop-p
invariant-loop-p l = (q : ℕ) → q < l.p → 0 < mark_at l.places q
