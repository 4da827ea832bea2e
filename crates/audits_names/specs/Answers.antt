-- Whether memory keeps addresses.
-- Assumes nothing.
use Rattle.std.specs.Prelude.{◌≡◌, Bool, true, false, List, ℕ}
use Rattle.peers.specs.Names.{Keeps}

-- r says whether memory keeps the addresses of n peers at all
pub record Valid (lens names : List ℕ) (width n : ℕ) (r : Bool) : Type 0 where
  pub yes : r ≡ true → (N : ℕ → List ℕ) × Keeps lens names width n N
  pub no : r ≡ false → (N : ℕ → List ℕ) → Keeps lens names width n N → ⊥
