-- Which strings of a list are equal. The list is handed in as `strings` has it: two columns say where in the bytes each string starts and how long it is.
-- Assumes nothing.
use Rattle.std.specs.Prelude.{◌≡◌, Bool, true, false, List, ℕ, ◌<◌, length, get_or}
use Rattle.memory.specs.Bytes.{part}
use Rattle.strings.specs.Strings.{WellFormed}

-- string i
abbrev pub string : (ats lens bytes : List ℕ) → ℕ → List ℕ
string ats lens bytes i = part bytes (get_or ats i 0) (get_or lens i 0)

-- r says whether the name is one of the strings
pub record Among (ats lens : List ℕ) (m : ℕ) (bytes name : List ℕ) (r : Bool) : Type 0 where
  pub yes : r ≡ true → (i : ℕ) × (i < m) × (string ats lens bytes i ≡ name)
  pub no : r ≡ false → WellFormed ats lens m (length bytes) → (i : ℕ) → i < m → string ats lens bytes i ≡ name → ⊥

-- r says whether no two of the strings are equal
pub record Distinct (ats lens : List ℕ) (m : ℕ) (bytes : List ℕ) (r : Bool) : Type 0 where
  pub yes : r ≡ true → (i j : ℕ) → i < m → j < m → string ats lens bytes i ≡ string ats lens bytes j → i ≡ j
  pub no : r ≡ false → WellFormed ats lens m (length bytes)
      → (i : ℕ) × (j : ℕ) × (i < j) × (j < m) × (string ats lens bytes i ≡ string ats lens bytes j)
