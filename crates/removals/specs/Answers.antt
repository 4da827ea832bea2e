-- What taking entries out answers. A function that is not lent a slice leaves it alone, so what it says holds whatever stands there.
-- Assumes nothing.
use Rattle.std.specs.Prelude.{List, ℕ}
use Rattle.std.proofs.Math.Option.{none}
use Rattle.keys.specs.declared.Bound.{Bound}
use Rattle.records.specs.Table.{Table, put, removed}
use Rattle.records.specs.Memory.{Keeps}

-- the key has no entry, and r entries are left
pub record AfterDelete (keys slots : List ℕ) (n key r : ℕ) (keys' slots' : List ℕ) : Type 0 where
  pub is : (lens values : List ℕ) (T : Table) → Keeps keys slots lens values n T → Keeps keys' slots' lens values r (put key none T)

-- the range has no entry, and r entries are left
pub record AfterRemove (keys slots : List ℕ) (n : ℕ) (lo hi : Bound) (r : ℕ) (keys' slots' : List ℕ) : Type 0 where
  pub is : (lens values : List ℕ) (T : Table) → Keeps keys slots lens values n T → Keeps keys' slots' lens values r (removed lo hi T)
