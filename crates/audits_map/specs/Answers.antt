-- Whether memory keeps a map.
-- Assumes nothing.
use Rattle.std.specs.Prelude.{◌≡◌, Bool, true, false, List, ℕ, ◌<◌}
use Rattle.delegation.specs.Map.{Keeps}

-- r says whether memory keeps a map in n bounds at all, and each owner is one of the hosts
pub record Valid (lows owners : List ℕ) (n hosts : ℕ) (r : Bool) : Type 0 where
  pub yes : r ≡ true → (f : ℕ → ℕ) × Keeps lows owners n f × ((k : ℕ) → f k < hosts)
  pub no : r ≡ false → (f : ℕ → ℕ) → Keeps lows owners n f → ((k : ℕ) → f k < hosts) → ⊥
