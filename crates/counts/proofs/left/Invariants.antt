-- So many entries there are when the keys passed are stored.
use mathlib.Core.List.{List}
use Prim.Native.Nat.{ℕ, ◌+◌, ◌≤◌}
use lib.ListN.{get_or}
use Rattle.columns.specs.Column.{Rising}
use Rattle.records.specs.Table.{Value, Table, removed, storing, Size}
use Rattle.records.specs.Memory.{Keeps}
use Rattle.counts.proofs.left.Given as goal

abbrev pub invariant-loop-k : goal.invariant-loop-k
invariant-loop-k l = (l.left ≤ l.n + l.k-index)
    × ((slots lens values : List ℕ) (T : Table) → Keeps l.keys slots lens values l.n T → Rising l.ks l.m → (val : ℕ → Value)
    → Size (storing l.k-index (λ i. get_or l.ks i 0) val (removed l.lo l.hi T)) l.left)
