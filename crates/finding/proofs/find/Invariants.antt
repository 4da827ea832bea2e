use mathlib.Core.Path.{◌≡◌}
use Prim.Native.Nat.{ℕ, ◌≤◌, ◌<◌, ◌*◌}
use lib.ListN.{get_or}
use Rattle.memory.specs.Bytes.{part}
use Rattle.finding.proofs.find.Given as goal

abbrev pub invariant-loop-i : goal.invariant-loop-i
invariant-loop-i l = (k : ℕ) → k < l.i → get_or l.lens k 0 ≤ l.width → part l.names (k * l.width) (get_or l.lens k 0) ≡ l.address → ⊥
