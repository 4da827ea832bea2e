use Prim.Native.Nat.{ℕ, ◌≤◌, ◌<◌}
use lib.ListN.{get_or}
use Rattle.limits.specs.Limits.{value_max}
use Rattle.audits.proofs.all_short.Given as goal

abbrev pub invariant-loop-slot : goal.invariant-loop-slot
invariant-loop-slot l = (k : ℕ) → k < l.slot-index → get_or l.lens (get_or l.slots k 0) 0 ≤ value_max
