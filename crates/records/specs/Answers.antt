-- What the functions over the table answer, each by cases on its answer. A function that is not lent a slice leaves it alone, so what it says
-- holds whatever stands there.
-- Assumes nothing.
use Rattle.std.specs.Prelude.{◌≡◌, Bool, true, false, List, Option, Some, None, ℕ, ◌+◌, ◌≤◌, length}
use Rattle.std.proofs.Math.Option.{none, some}
use Rattle.records.specs.Table.{Table, empty}
use Rattle.memory.specs.Bytes.{part}
use Rattle.records.specs.Memory.{Shape, Keeps}

-- r says whether slices of these lengths fit together
pub record Fits (keys slots lens values n : ℕ) (r : Bool) : Type 0 where
  pub yes : r ≡ true → Shape keys slots lens values n
  pub no : r ≡ false → Shape keys slots lens values n → ⊥

-- the table is empty, or what is lent does not fit together and nothing has changed
pub record AfterStart (keys slots lens values : List ℕ) (r : Bool) (slots' : List ℕ) : Type 0 where
  pub ready : r ≡ true → Keeps keys slots' lens values 0 empty
  pub unfit : r ≡ false → (slots' ≡ slots) × (Shape (length keys) (length slots) (length lens) (length values) 0 → ⊥)

-- the key's value stands in `values`, from `at` on, or the key has none. A part that is named lies within `values` in any case
abbrev pub GetCases : Option (ℕ × ℕ) → (keys slots lens values : List ℕ) → (n key : ℕ) → Type 0
GetCases (Some (at, len)) keys slots lens values n key =
    (at + len ≤ length values) × ((T : Table) → Keeps keys slots lens values n T → T key ≡ some (part values at len))
GetCases None keys slots lens values n key = (T : Table) → Keeps keys slots lens values n T → T key ≡ none

pub record Got (keys slots lens values : List ℕ) (n key : ℕ) (r : Option (ℕ × ℕ)) : Type 0 where
  pub is : GetCases r keys slots lens values n key
