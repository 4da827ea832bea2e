-- The map from key to owner, and what the functions over it answer (document 01, section 2). The map means a function: every key has one
-- owner, a small number.
-- Assumes nothing.
use Rattle.std.specs.Prelude.{◌≡◌, Bool, true, false, cond, List, Result, Ok, Err, ℕ, suc, min, ◌≤◌, ◌<◌, length, get_or}
use Rattle.limits.specs.Limits.{numbers}
use Rattle.keys.specs.declared.Bound.{Bound}
use Rattle.keys.specs.Bound.{holds}
use Rattle.columns.specs.Column.{Rising}
use Rattle.limits.specs.declared.NoRoom.{NoRoom}

-- the map after the range [lo, hi) was given to v: exactly the keys in the range change
abbrev pub updated : Bound → Bound → ℕ → (ℕ → ℕ) → ℕ → ℕ
updated lo hi v f k = cond (holds lo hi k) v (f k)

-- Memory keeps the map f in n bounds: the first lies at 0, they rise strictly, neighbours have different owners, and bound i has the keys
-- from its own up to that of the next bound, or all from its own on if it is the last
pub record Keeps (lows owners : List ℕ) (n : ℕ) (f : ℕ → ℕ) : Type 0 where
  pub some : 0 < n
  pub fits_lows : n ≤ length lows
  pub fits_owners : n ≤ length owners
  pub zero : get_or lows 0 0 ≡ 0
  pub rising : Rising lows n
  pub joined : (i : ℕ) → suc i < n → get_or owners i 0 ≡ get_or owners (suc i) 0 → ⊥
  pub means : (i k : ℕ) → i < n → get_or lows i 0 ≤ k → (suc i < n → k < get_or lows (suc i) 0) → f k ≡ get_or owners i 0

-- The map f takes m bounds. It never takes another number of them (law `takes_unique`), so this is how many there are, whatever is lent
abbrev pub Takes : (ℕ → ℕ) → ℕ → Type 0
Takes f m = (lows owners : List ℕ) × Keeps lows owners m f

-- how many bounds what is lent has room for
abbrev pub room : List ℕ → List ℕ → ℕ
room lows owners = min (length lows) (length owners)

-- ---- what the functions answer

abbrev pub StartCases : Result ℕ NoRoom → (lows owners : List ℕ) → ℕ → (lows' owners' : List ℕ) → Type 0
StartCases (Ok m) lows owners v lows' owners' = Keeps lows' owners' m (λ k. v)
StartCases (Err e) lows owners v lows' owners' = (lows' ≡ lows) × (owners' ≡ owners) × (room lows owners < 1)

-- all keys are v's, or there is no room for one bound and nothing has changed
pub record AfterStart (lows owners : List ℕ) (v : ℕ) (r : Result ℕ NoRoom) (lows' owners' : List ℕ) : Type 0 where
  pub is : StartCases r lows owners v lows' owners'

-- r is the key's owner
pub record Owner (lows owners : List ℕ) (n key r : ℕ) : Type 0 where
  pub is : (f : ℕ → ℕ) → Keeps lows owners n f → r ≡ f key

-- r says whether n bounds, and at least one, fit what is lent
pub record Enough (lows owners : List ℕ) (n : ℕ) (r : Bool) : Type 0 where
  pub yes : r ≡ true → (0 < n) × (n ≤ length lows) × (n ≤ length owners)
  pub no : r ≡ false → 0 < n → n ≤ length lows → n ≤ length owners → ⊥

abbrev pub SetCases : Result ℕ NoRoom → (lows owners : List ℕ) → ℕ → Bound → Bound → ℕ → (lows' owners' : List ℕ) → Type 0
SetCases (Ok m) lows owners n lo hi v lows' owners' =
    (f : ℕ → ℕ) → Keeps lows owners n f → Keeps lows' owners' m (updated lo hi v f)
SetCases (Err e) lows owners n lo hi v lows' owners' =
    (lows' ≡ lows) × (owners' ≡ owners)
    × ((f : ℕ → ℕ) → Keeps lows owners n f → (m : ℕ) × Takes (updated lo hi v f) m × (room lows owners < m))

-- the range is v's and every other key is whose it was, or that takes more bounds than there is room for and nothing has changed
pub record AfterSet (lows owners : List ℕ) (n : ℕ) (lo hi : Bound) (v : ℕ) (r : Result ℕ NoRoom) (lows' owners' : List ℕ) : Type 0 where
  pub is : SetCases r lows owners n lo hi v lows' owners'

-- r is how many bounds giving the range to v would leave
pub record Left (lows owners : List ℕ) (n : ℕ) (lo hi : Bound) (v r : ℕ) : Type 0 where
  pub is : (f : ℕ → ℕ) → Keeps lows owners n f → Takes (updated lo hi v f) r

-- r says whether every key in the range is v's. If not, there is a key of 64 bits in the range that is not
pub record Whole (lows owners : List ℕ) (n : ℕ) (lo hi : Bound) (v : ℕ) (r : Bool) : Type 0 where
  pub all : (f : ℕ → ℕ) → Keeps lows owners n f → r ≡ true → (k : ℕ) → holds lo hi k ≡ true → f k ≡ v
  pub other : (f : ℕ → ℕ) → Keeps lows owners n f → r ≡ false → (k : ℕ) × (k < numbers) × (holds lo hi k ≡ true) × (f k ≡ v → ⊥)
