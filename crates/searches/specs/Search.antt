-- What a search in a column that rises answers, by a bound and by a key. (How many lie at or below a key is `Upto` of `columns`.)
-- Assumes nothing.
use Rattle.std.specs.Prelude.{◌≡◌, true, false, List, Result, Ok, Err, ℕ, ◌≤◌, ◌<◌, length, get_or}
use Rattle.keys.specs.declared.Bound.{Bound}
use Rattle.keys.specs.declared.Bound.TheVariants.{Key}
use Rattle.keys.specs.Bound.{below}
use Rattle.columns.specs.Column.{Rising, Splits}

-- r is how many of the first n lie below the bound, if they are there and rise
pub record Before (c : List ℕ) (n : ℕ) (b : Bound) (r : ℕ) : Type 0 where
  pub least : r ≤ n
  pub low : n ≤ length c → Rising c n → (x : ℕ) → x < r → below (Key (get_or c x 0)) b ≡ true
  pub high : n ≤ length c → Rising c n → (x : ℕ) → r ≤ x → x < n → below (Key (get_or c x 0)) b ≡ false

-- k stands at place i; or it stands nowhere, if the first n are there and rise, and belongs before place p
abbrev pub SeekCases : Result ℕ ℕ → List ℕ → (n k : ℕ) → Type 0
SeekCases (Ok i) c n k = (i < n) × (i < length c) × (get_or c i 0 ≡ k)
SeekCases (Err p) c n k = (p ≤ n) × (n ≤ length c → Rising c n → Splits c n k p × ((x : ℕ) → x < n → get_or c x 0 ≡ k → ⊥))

pub record Sought (c : List ℕ) (n k : ℕ) (r : Result ℕ ℕ) : Type 0 where
  pub is : SeekCases r c n k
