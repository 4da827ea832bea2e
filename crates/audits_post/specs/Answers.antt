-- Whether memory keeps what a host knows of its peers.
-- Assumes nothing.
use Rattle.std.specs.Prelude.{◌≡◌, Bool, true, false, List, ℕ}
use Rattle.delivery.specs.Post.{Post}
use Rattle.delivery.specs.Memory.{Keeps}

-- r says whether memory keeps something for the first n peers at all
pub record Valid (counts places mail : List ℕ) (size n : ℕ) (r : Bool) : Type 0 where
  pub yes : r ≡ true → (P : Post) × Keeps counts places mail size n P
  pub no : r ≡ false → (P : Post) → Keeps counts places mail size n P → ⊥
