-- What the private functions answer. A caller of the crate need not read this.
-- Assumes nothing.
use Rattle.std.specs.Prelude.{◌≡◌, Bool, true, false, List, ℕ, ◌+◌, ◌≤◌, ◌<◌, get_or}
use Rattle.records.specs.Table.{Table, dropped}
use Rattle.records.specs.Memory.{Slots, Keeps}

-- those from place j on have moved down to place i, and the slots are a permutation still
pub record Sunk (slots : List ℕ) (n i j : ℕ) (slots' : List ℕ) : Type 0 where
  pub before : (x : ℕ) → x < i → get_or slots' x 0 ≡ get_or slots x 0
  pub after : (y : ℕ) → j + y < n → get_or slots' (i + y) 0 ≡ get_or slots (j + y) 0
  pub keeps : Slots slots → Slots slots'

-- the entries from place i up to place j are those that the test holds of, and they are gone
pub record AfterSpan (keys slots : List ℕ) (n i j r : ℕ) (keys' slots' : List ℕ) : Type 0 where
  pub is : (lens values : List ℕ) (T : Table) (p : ℕ → Bool) → Keeps keys slots lens values n T
      → ((x : ℕ) → i ≤ x → x < j → p (get_or keys x 0) ≡ true)
      → ((x : ℕ) → x < n → (i ≤ x → x < j → ⊥) → p (get_or keys x 0) ≡ false)
      → Keeps keys' slots' lens values r (dropped p T)
