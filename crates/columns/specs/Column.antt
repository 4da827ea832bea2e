-- What a column is, and what is done with it. A column is a list of numbers of which the first n count; what stands past them is
-- memory that is lent and not in use.
-- Assumes nothing.
use Rattle.std.specs.Prelude.{◌≡◌, Bool, true, false, List, ◌∷◌, ◌++◌, ℕ, suc, ◌+◌, ◌-◌, ◌≤◌, ◌<◌, length, take, drop, get_or}
use Rattle.std.proofs.Math.Seq.{slice}

-- v put before the element at `at`: those from there on move up by one, over what stood at n
abbrev pub inserted : List ℕ → ℕ → ℕ → ℕ → List ℕ
inserted c n at v = take at c ++ (v ∷ (slice at n c ++ drop (suc n) c))

pub record Inserted (c : List ℕ) (n at v : ℕ) (r : Bool) (c' : List ℕ) : Type 0 where
  pub done : at ≤ n → n < length c → (r ≡ true) × (c' ≡ inserted c n at v)
  pub refused : (at ≤ n → n < length c → ⊥) → (r ≡ false) × (c' ≡ c)

-- the elements from i up to j taken out of the first n: those from j on move down; what is past them stays
abbrev pub without : List ℕ → ℕ → ℕ → ℕ → List ℕ
without c n i j = take i c ++ (slice j n c ++ drop (i + (n - j)) c)

pub record Cut (c : List ℕ) (n i j : ℕ) (r : Bool) (c' : List ℕ) : Type 0 where
  pub done : i ≤ j → j ≤ n → n ≤ length c → (r ≡ true) × (c' ≡ without c n i j)
  pub refused : (i ≤ j → j ≤ n → n ≤ length c → ⊥) → (r ≡ false) × (c' ≡ c)

-- the first n rise strictly
abbrev pub Rising : List ℕ → ℕ → Type 0
Rising c n = (i j : ℕ) → i < j → j < n → get_or c i 0 < get_or c j 0

-- the first n fall apart at r: those before r lie at or below k, those from r on above it
pub record Splits (c : List ℕ) (n k r : ℕ) : Type 0 where
  pub within : r ≤ n
  pub low : (i : ℕ) → i < r → get_or c i 0 ≤ k
  pub high : (i : ℕ) → r ≤ i → i < n → k < get_or c i 0

-- r is how many of the first n lie at or below k, if they are there and rise. In any case r is a place within the column
pub record Upto (c : List ℕ) (n k r : ℕ) : Type 0 where
  pub within : r ≤ n
  pub inside : r ≤ length c
  pub splits : n ≤ length c → Rising c n → Splits c n k r

-- r says whether the column has n elements and the first n rise strictly
pub record Rises (c : List ℕ) (n : ℕ) (r : Bool) : Type 0 where
  pub yes : r ≡ true → (n ≤ length c) × Rising c n
  pub no : r ≡ false → n ≤ length c → Rising c n → ⊥
