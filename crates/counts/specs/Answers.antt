-- What counting answers: the entries of a range, and those that a replacement would leave.
-- Assumes nothing.
use Rattle.std.specs.Prelude.{List, ℕ, ◌-◌, ◌≤◌, length, get_or}
use Rattle.keys.specs.declared.Bound.{Bound}
use Rattle.columns.specs.Column.{Rising}
use Rattle.records.specs.Table.{Value, Table, removed, within, replaced, Size}
use Rattle.records.specs.Memory.{Keeps}

-- the range has r entries, and the rest of the table n - r
pub record Counted (keys : List ℕ) (n : ℕ) (lo hi : Bound) (r : ℕ) : Type 0 where
  pub most : r ≤ n
  pub rest : (slots lens values : List ℕ) (T : Table) → Keeps keys slots lens values n T → Size (removed lo hi T) (n - r)
  pub is : (slots lens values : List ℕ) (T : Table) → Keeps keys slots lens values n T → Size (within lo hi T) r

-- r is how many entries replacing the range by entries with these keys would leave, whatever their values
pub record Left (keys : List ℕ) (n : ℕ) (lo hi : Bound) (ks : List ℕ) (m r : ℕ) : Type 0 where
  pub is : (slots lens values : List ℕ) (T : Table) → Keeps keys slots lens values n T → m ≤ length ks → Rising ks m
      → (val : ℕ → Value) → Size (replaced lo hi m (λ i. get_or ks i 0) val T) r
