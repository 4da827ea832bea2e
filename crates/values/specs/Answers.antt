-- What the readers of values answer: a value of the format stands at the place and is told, or none is written there.
-- Assumes nothing.
use Rattle.std.specs.Prelude.{List, ℕ, Option, Some, None}
use Rattle.format.specs.declared.Part.{Part}
use Rattle.format.specs.Format.{number, maybe, pair}
use Rattle.format.specs.Place.{Stands, Lacks}
use Rattle.message.specs.Table.{value}
use Rattle.message.specs.View.{value_of, ValueIn}

abbrev pub ValueCases : List ℕ → ℕ → Option (Option Part × ℕ) → Type 0
ValueCases s at (Some (v, next)) = Stands (maybe value) s at (value_of s v) next × ValueIn s v
ValueCases s at None = Lacks (maybe value) s at

pub record ReadValue (s : List ℕ) (at : ℕ) (r : Option (Option Part × ℕ)) : Type 0 where
  pub is : ValueCases s at r

abbrev pub KeyedCases : List ℕ → ℕ → Option (ℕ × Option Part × ℕ) → Type 0
KeyedCases s at (Some (k, v, next)) = Stands (pair number (maybe value)) s at (k, value_of s v) next × ValueIn s v
KeyedCases s at None = Lacks (pair number (maybe value)) s at

pub record ReadKeyed (s : List ℕ) (at : ℕ) (r : Option (ℕ × Option Part × ℕ)) : Type 0 where
  pub is : KeyedCases s at r
