-- What is read of the peers' words. A function that is not lent a slice leaves it alone, so what it says holds whatever stands there.
-- Assumes nothing.
use Rattle.std.specs.Prelude.{◌≡◌, List, ℕ, ◌<◌}
use Rattle.delivery.specs.Post.{Post, last}
use Rattle.delivery.specs.Memory.{Keeps}
use Rattle.delivery.specs.declared.Counts.{Counts}

-- r has the three numbers of the peer
pub record Counted (counts : List ℕ) (peer : ℕ) (r : Counts) : Type 0 where
  pub received : (places mail : List ℕ) (size n : ℕ) (P : Post) → Keeps counts places mail size n P → peer < n → r.received ≡ P.received peer
  pub acknowledged : (places mail : List ℕ) (size n : ℕ) (P : Post) → Keeps counts places mail size n P → peer < n
      → r.acknowledged ≡ P.acknowledged peer
  pub last : (places mail : List ℕ) (size n : ℕ) (P : Post) → Keeps counts places mail size n P → peer < n → r.last ≡ last P peer
