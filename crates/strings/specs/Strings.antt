-- A list of m byte strings as it is handed in: two columns say where in the bytes each string starts and how long it is.
-- Assumes nothing.
use Rattle.std.specs.Prelude.{◌≡◌, Bool, true, false, List, ℕ, ◌+◌, ◌≤◌, ◌<◌, length, get_or}

-- the columns have m places, and each string lies within so many bytes
pub record WellFormed (ats lens : List ℕ) (m size : ℕ) : Type 0 where
  pub fits_ats : m ≤ length ats
  pub fits_lens : m ≤ length lens
  pub within : (i : ℕ) → i < m → get_or ats i 0 + get_or lens i 0 ≤ size

-- r says whether the list is well formed
pub record Inside (ats lens : List ℕ) (m size : ℕ) (r : Bool) : Type 0 where
  pub yes : r ≡ true → WellFormed ats lens m size
  pub no : r ≡ false → WellFormed ats lens m size → ⊥

-- r says whether none of the first m strings is longer
pub record NoneLonger (lens : List ℕ) (m most : ℕ) (r : Bool) : Type 0 where
  pub yes : r ≡ true → (i : ℕ) → i < m → get_or lens i 0 ≤ most
  pub no : r ≡ false → (i : ℕ) × (i < m) × (most < get_or lens i 0)
