-- What letting a message wait in its place does.
-- Assumes nothing.
use Rattle.std.specs.Prelude.{◌≡◌, List, ℕ, ◌*◌, ◌≤◌, ◌<◌, length}
use Rattle.memory.specs.Bytes.{placed}
use Rattle.delivery.specs.Post.{Post, next, posted}
use Rattle.delivery.specs.Memory.{Keeps, Open, Standing}

-- The datagram that was written into a free place waits there as the next message to the peer
pub record AfterPost (counts places : List ℕ) (peer p x len : ℕ) (counts' places' : List ℕ) : Type 0 where
  pub is : (mail : List ℕ) (size n : ℕ) (P : Post) → Keeps counts places mail size n P → peer < n → Open places p → x ≡ next P peer
      → (bytes : List ℕ) → len ≡ length bytes → len ≤ size
      → Keeps counts' places' (placed mail (p * size) bytes) size n (posted peer bytes P)
      × Standing places' (placed mail (p * size) bytes) size p peer x bytes
