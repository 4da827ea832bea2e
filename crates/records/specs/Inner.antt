-- What the private functions answer. A caller of the crate need not read this.
-- Assumes nothing.
use Rattle.std.specs.Prelude.{◌≡◌, List, Option, Some, None, ℕ, ◌+◌, ◌*◌, ◌≤◌, ◌<◌, length, get_or}
use Rattle.limits.specs.Limits.{value_max}

-- place i has a slot, and the slot a length and bytes
pub record Room (slots lens values : List ℕ) (i : ℕ) : Type 0 where
  pub place : i < length slots
  pub slot : get_or slots i 0 < length lens
  pub bytes : get_or slots i 0 * value_max + value_max ≤ length values

abbrev pub PlacedCases : Option (ℕ × ℕ) → (slots lens values : List ℕ) → ℕ → Type 0
PlacedCases (Some (at, len)) slots lens values i =
    (at + len ≤ length values) × (at ≡ get_or slots i 0 * value_max) × (len ≡ get_or lens (get_or slots i 0) 0)
PlacedCases None slots lens values i = Room slots lens values i → get_or lens (get_or slots i 0) 0 ≤ value_max → ⊥

pub record Placed (slots lens values : List ℕ) (i : ℕ) (r : Option (ℕ × ℕ)) : Type 0 where
  pub is : PlacedCases r slots lens values i
