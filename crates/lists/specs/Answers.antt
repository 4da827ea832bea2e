-- What the readers of lists answer: the entries stand at the place and are told, or no such list is written there.
-- Assumes nothing.
use Rattle.std.specs.Prelude.{◌≡◌, List, ℕ, suc, ◌+◌, Option, Some, None}
use Rattle.memory.specs.Bytes.{part}
use Rattle.format.specs.Number.{width}
use Rattle.format.specs.Format.{entries}
use Rattle.format.specs.Place.{Stands, Lacks, listed, row, Rest, NoRest}
use Rattle.format.specs.declared.Part.{Part}

abbrev pub RowCases : List ℕ → ℕ → Option (ℕ × Part) → Type 0
RowCases s at (Some (k, p)) =
    (p.at ≡ at + width + width) × Stands row s at (k, part s p.at p.len) (p.at + p.len)
RowCases s at None = Lacks row s at

pub record ReadRow (s : List ℕ) (at : ℕ) (r : Option (ℕ × Part)) : Type 0 where
  pub is : RowCases s at r

-- the lowest key that may come: any, if none came yet, or one above the last
abbrev pub lowest : Option ℕ → ℕ
lowest None = 0
lowest (Some last) = suc last

abbrev pub RowsCases : List ℕ → ℕ → ℕ → Option ℕ → Type 0
RowsCases s from n (Some next) = Rest s from n 0 (listed s from n) next
RowsCases s from n None = NoRest s from n 0

pub record ReadRows (s : List ℕ) (from n : ℕ) (r : Option ℕ) : Type 0 where
  pub is : RowsCases s from n r

-- the list has n entries, the first of them behind the count
abbrev pub ListCases : ℕ → List ℕ → ℕ → Option (ℕ × ℕ) → Type 0
ListCases limit s at (Some (n, next)) =
    Stands (entries limit) s at (listed s (at + width) n) next × Rest s (at + width) n 0 (listed s (at + width) n) next
ListCases limit s at None = Lacks (entries limit) s at

pub record ReadList (limit : ℕ) (s : List ℕ) (at : ℕ) (r : Option (ℕ × ℕ)) : Type 0 where
  pub is : ListCases limit s at r
