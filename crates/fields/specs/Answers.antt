-- What the readers of bounds answer: a value of the format stands at the place and is told, or none is written there.
-- Assumes nothing.
use Rattle.std.specs.Prelude.{List, ℕ, Option, Some, None}
use Rattle.format.specs.Format.{number, maybe}
use Rattle.format.specs.Place.{Stands, Lacks}
use Rattle.message.specs.Table.{range, key_of}
use Rattle.keys.specs.declared.Bound.{Bound}

abbrev pub BoundCases : List ℕ → ℕ → Option (Bound × ℕ) → Type 0
BoundCases s at (Some (b, next)) = Stands (maybe number) s at (key_of b) next
BoundCases s at None = Lacks (maybe number) s at

pub record ReadBound (s : List ℕ) (at : ℕ) (r : Option (Bound × ℕ)) : Type 0 where
  pub is : BoundCases s at r

abbrev pub RangeCases : List ℕ → ℕ → Option (Bound × Bound × ℕ) → Type 0
RangeCases s at (Some (lo, hi, next)) = Stands range s at (key_of lo, key_of hi) next
RangeCases s at None = Lacks range s at

pub record ReadRange (s : List ℕ) (at : ℕ) (r : Option (Bound × Bound × ℕ)) : Type 0 where
  pub is : RangeCases s at r
