-- Where a range falls among the bounds of a map, what a change does with each column, and what that makes of the map. `grants` needs these
-- to carry a plan out; no other caller does.
-- Assumes nothing.
use Rattle.std.specs.Prelude.{◌≡◌, Bool, true, false, not, List, ℕ, ◌+◌, ◌-◌, ◌≤◌, ◌<◌, length, get_or, eqb}
use Rattle.limits.specs.Limits.{numbers}
use Rattle.keys.specs.declared.Bound.{Bound}
use Rattle.keys.specs.declared.Bound.TheVariants.{Key, End}
use Rattle.keys.specs.Bound.{below}
use Rattle.columns.specs.Column.{Rising}
use Rattle.plans.specs.declared.Plan.{Plan}
use Rattle.delegation.specs.Map.{Keeps, updated}

-- a bound's key; any number for end
abbrev pub key_of : Bound → ℕ
key_of (Key k) = k
key_of End = 0

-- r of the first n bounds lie at b or below it, if they rise. A bound that code is given has a key of 64 bits
pub record Through (lows : List ℕ) (n : ℕ) (b : Bound) (r : ℕ) : Type 0 where
  pub small : key_of b < numbers
  pub within : r ≤ n
  pub low : n ≤ length lows → Rising lows n → (i : ℕ) → i < r → below b (Key (get_or lows i 0)) ≡ false
  pub high : n ≤ length lows → Rising lows n → (i : ℕ) → r ≤ i → i < n → below b (Key (get_or lows i 0)) ≡ true

-- r says whether there are bounds among the first n, the last of them v's
pub record EndsWith (owners : List ℕ) (n v : ℕ) (r : Bool) : Type 0 where
  pub yes : r ≡ true → (0 < n) × (get_or owners (n - 1) 0 ≡ v)
  pub no : r ≡ false → 0 < n → get_or owners (n - 1) 0 ≡ v → ⊥

-- whether a bound is put at hi, where the keys are w's from hi on: not at end, and not if w is v itself
abbrev pub turned : Bound → ℕ → ℕ → Bool
turned (Key h) w v = not (eqb w v)
turned End w v = false

-- how many bounds are put
abbrev pub count : Bool → ℕ
count true = 1
count false = 0

-- a column of n after the change: the elements before `first`, then x if a bound is put at lo, then y if one is put at hi, then the
-- elements from `last` on
pub record Edited (c : List ℕ) (n : ℕ) (p : Plan) (x y : ℕ) (c' : List ℕ) : Type 0 where
  pub before : (k : ℕ) → k < p.first → get_or c' k 0 ≡ get_or c k 0
  pub low : p.low ≡ true → get_or c' p.first 0 ≡ x
  pub high : p.high ≡ true → get_or c' (p.first + count p.low) 0 ≡ y
  pub after : (k : ℕ) → p.last + k < n → get_or c' (p.first + count p.low + count p.high + k) 0 ≡ get_or c (p.last + k) 0

-- the plan for giving [lo, hi), which is not empty, to v: both columns edited by it keep the map that is asked for
pub record Planned (lows owners : List ℕ) (n : ℕ) (lo hi : Bound) (v : ℕ) (p : Plan) : Type 0 where
  pub ordered : p.first ≤ p.last
  pub within : p.last ≤ n
  pub bounds : p.bounds ≡ p.first + count p.low + count p.high + (n - p.last)
  pub keeps : (f : ℕ → ℕ) → Keeps lows owners n f → below lo hi ≡ true → (lows' owners' : List ℕ)
      → p.bounds ≤ length lows' → p.bounds ≤ length owners'
      → Edited lows n p (key_of lo) (key_of hi) lows' → Edited owners n p v p.after owners'
      → Keeps lows' owners' p.bounds (updated lo hi v f)
