-- Whether memory keeps what it should.
-- Assumes nothing.
use Rattle.std.specs.Prelude.{◌≡◌, Bool, true, false, List, ℕ}
use Rattle.records.specs.Table.{Table}
use Rattle.records.specs.Memory.{Keeps}

-- r says whether memory keeps a table at all
pub record Valid (keys slots lens values : List ℕ) (n : ℕ) (r : Bool) : Type 0 where
  pub yes : r ≡ true → (T : Table) × Keeps keys slots lens values n T
  pub no : r ≡ false → (T : Table) → Keeps keys slots lens values n T → ⊥
