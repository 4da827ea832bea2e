-- A list of entries as it is handed in, and what a look at it answers.
-- Assumes nothing.
use Rattle.std.specs.Prelude.{List, Result, Ok, Err, ℕ, ◌+◌, ◌≤◌, ◌<◌, length, get_or}
use Rattle.limits.specs.Limits.{value_max}
use Rattle.columns.specs.Column.{Rising}
use Rattle.entered.specs.declared.Refused.{Refused}
use Rattle.entered.specs.declared.Refused.TheVariants.{TooLong, Malformed}

-- a list of m entries as it is handed in: keys, and where in the bytes each value stands. It is well formed if the columns have m places, the
-- keys rise strictly and each value lies within the bytes
pub record Entered (ks ats ls bytes : List ℕ) (m : ℕ) : Type 0 where
  pub fits_keys : m ≤ length ks
  pub fits_ats : m ≤ length ats
  pub fits_lens : m ≤ length ls
  pub rising : Rising ks m
  pub inside : (i : ℕ) → i < m → get_or ats i 0 + get_or ls i 0 ≤ length bytes

-- the list is well formed and no value is too long, or some value is, or it is not well formed
abbrev pub CheckCases : Result (Unit {0}) Refused → (ks ats ls bytes : List ℕ) → ℕ → Type 0
CheckCases (Ok u) ks ats ls bytes m = Entered ks ats ls bytes m × ((i : ℕ) → i < m → get_or ls i 0 ≤ value_max)
CheckCases (Err TooLong) ks ats ls bytes m = (i : ℕ) × (i < m) × (value_max < get_or ls i 0)
CheckCases (Err Malformed) ks ats ls bytes m = Entered ks ats ls bytes m → ⊥

pub record Checked (ks ats ls bytes : List ℕ) (m : ℕ) (r : Result (Unit {0}) Refused) : Type 0 where
  pub is : CheckCases r ks ats ls bytes m
