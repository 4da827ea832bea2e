-- What copying bytes and comparing them is.
-- Assumes nothing.
use Rattle.std.specs.Prelude.{◌≡◌, Bool, true, false, List, ◌++◌, ℕ, ◌+◌, ◌≤◌, ◌<◌, length, take, drop}

-- the part of the bytes that starts at `at` and is len long
abbrev pub part : List ℕ → ℕ → ℕ → List ℕ
part bytes at len = take len (drop at bytes)

-- d with s written over it, from place `at` on
abbrev pub placed : List ℕ → ℕ → List ℕ → List ℕ
placed d at s = take at d ++ s ++ drop (at + length s) d

-- s was copied to d's place `at`, or does not fit there and d is as it was
pub record Copied (s d : List ℕ) (at : ℕ) (r : Bool) (d' : List ℕ) : Type 0 where
  pub done : at + length s ≤ length d → (r ≡ true) × (d' ≡ placed d at s)
  pub refused : length d < at + length s → (r ≡ false) × (d' ≡ d)

-- r says whether a and b are equal
pub record Same (a b : List ℕ) (r : Bool) : Type 0 where
  pub yes : r ≡ true → a ≡ b
  pub no : r ≡ false → a ≡ b → ⊥
