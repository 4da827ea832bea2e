-- What the readers answer: a value of the format stands at the place and is told, or none is written there.
-- Assumes nothing.
use Rattle.std.specs.Prelude.{◌≡◌, List, ℕ, ◌+◌, Option, Some, None}
use Rattle.memory.specs.Bytes.{part}
use Rattle.format.specs.Number.{width}
use Rattle.format.specs.Format.{number, string}
use Rattle.format.specs.Place.{Stands, Lacks}
use Rattle.format.specs.declared.Part.{Part}

-- the number n takes the bytes from `at` on
abbrev pub NumberCases : List ℕ → ℕ → Option ℕ → Type 0
NumberCases s at (Some n) = Stands number s at n (at + width)
NumberCases s at None = Lacks number s at

pub record ReadNumber (s : List ℕ) (at : ℕ) (r : Option ℕ) : Type 0 where
  pub is : NumberCases s at r

-- the part p is the byte string: it lies behind its length
abbrev pub TextCases : ℕ → List ℕ → ℕ → Option Part → Type 0
TextCases limit s at (Some p) =
    (p.at ≡ at + width) × Stands (string limit) s at (part s p.at p.len) (p.at + p.len)
TextCases limit s at None = Lacks (string limit) s at

pub record ReadText (limit : ℕ) (s : List ℕ) (at : ℕ) (r : Option Part) : Type 0 where
  pub is : TextCases limit s at r
