-- What counting a message that was taken does, and letting a peer join. Neither is lent the places or the mail, so what they say holds whatever
-- stands there.
-- Assumes nothing.
use Rattle.std.specs.Prelude.{◌≡◌, Bool, true, false, List, ℕ, ◌+◌, ◌*◌, ◌<◌, length}
use Rattle.delivery.specs.Post.{Post, took, joined}
use Rattle.delivery.specs.Memory.{Keeps}

-- the message with the number x was taken from the peer
pub record AfterTake (counts : List ℕ) (peer x : ℕ) (counts' : List ℕ) : Type 0 where
  pub is : (places mail : List ℕ) (size n : ℕ) (P : Post) → Keeps counts places mail size n P → peer < n
      → Keeps counts' places mail size n (took peer x P)

-- there is one more peer, or there are no words for it and nothing has changed
pub record AfterJoin (counts : List ℕ) (n : ℕ) (r : Bool) (counts' : List ℕ) : Type 0 where
  pub done : r ≡ true → (places mail : List ℕ) (size : ℕ) (P : Post) → Keeps counts places mail size n P
      → Keeps counts' places mail size (n + 1) (joined n P)
  pub full : r ≡ false → (counts' ≡ counts) × (length counts < n * 3 + 3)
