use Prim.Native.Nat.{ℕ, ◌-◌, ◌≤◌, ◌<◌}
use lib.ListN.{get_or}
use Rattle.columns.specs.Column.{Rising}
use Rattle.delegation.proofs.beyond.Given as goal

abbrev pub invariant-loop-known : goal.invariant-loop-known
invariant-loop-known l = (l.known ≤ l.end) × (Rising l.lows l.end → (i : ℕ) → i < l.known → get_or l.lows i 0 ≤ l.key)

abbrev pub decreases-loop-known : goal.decreases-loop-known
decreases-loop-known l = l.end - l.known
