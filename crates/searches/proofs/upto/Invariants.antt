use Prim.Native.Nat.{ℕ, ◌-◌, ◌≤◌, ◌<◌}
use lib.ListN.{length, get_or}
use Rattle.columns.specs.Column.{Rising}
use Rattle.searches.proofs.upto.Given as goal

abbrev pub invariant-loop-lo : goal.invariant-loop-lo
invariant-loop-lo l = (l.lo ≤ l.hi) × (l.hi ≤ l.n) × (l.hi ≤ length l.column)
    × (l.n ≤ length l.column → Rising l.column l.n
    → ((i : ℕ) → i < l.lo → get_or l.column i 0 ≤ l.key) × ((i : ℕ) → l.hi ≤ i → i < l.n → l.key < get_or l.column i 0))

abbrev pub decreases-loop-lo : goal.decreases-loop-lo
decreases-loop-lo l = l.hi - l.lo
