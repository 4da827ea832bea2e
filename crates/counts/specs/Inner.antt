-- What the private function answers. A caller of the crate need not read this.
-- Assumes nothing.
use Rattle.std.specs.Prelude.{◌≡◌, ◌⊎◌, Bool, true, false, List, ℕ, ◌≤◌, ◌<◌, length, get_or}
use Rattle.keys.specs.declared.Bound.{Bound}
use Rattle.keys.specs.Bound.{holds}
use Rattle.columns.specs.Column.{Rising}

-- r says whether the key has no entry once the range is removed
pub record IsNew (keys : List ℕ) (n : ℕ) (lo hi : Bound) (key : ℕ) (r : Bool) : Type 0 where
  pub yes : r ≡ true → n ≤ length keys → Rising keys n → (holds lo hi key ≡ true) ⊎ ((x : ℕ) → x < n → get_or keys x 0 ≡ key → ⊥)
  pub no : r ≡ false → n ≤ length keys → Rising keys n → (holds lo hi key ≡ false) × ((x : ℕ) × (x < n) × (get_or keys x 0 ≡ key))
