-- What the private functions answer. A caller of the crate need not read this.
-- Assumes nothing.
use Rattle.std.specs.Prelude.{◌≡◌, Bool, true, false, List, ℕ, ◌≤◌, ◌<◌, length, get_or}
use Rattle.limits.specs.Limits.{value_max}
use Rattle.records.specs.Memory.{Slots}

pub record Permuted (slots : List ℕ) (r : Bool) : Type 0 where
  pub yes : r ≡ true → Slots slots
  pub no : r ≡ false → Slots slots → ⊥

pub record Fresh (slots : List ℕ) (i : ℕ) (r : Bool) : Type 0 where
  pub yes : r ≡ true → (get_or slots i 0 < length slots) × ((j : ℕ) → j < i → get_or slots j 0 ≡ get_or slots i 0 → ⊥)
  pub no : r ≡ false → Slots slots → ⊥

pub record AllShort (slots lens : List ℕ) (n : ℕ) (r : Bool) : Type 0 where
  pub yes : r ≡ true → (i : ℕ) → i < n → get_or lens (get_or slots i 0) 0 ≤ value_max
  pub no : r ≡ false → ((i : ℕ) → i < n → get_or slots i 0 < length lens) → ((i : ℕ) → i < n → get_or lens (get_or slots i 0) 0 ≤ value_max) → ⊥
