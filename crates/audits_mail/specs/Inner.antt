-- What the private functions answer. A caller of the crate need not read this.
-- Assumes nothing.
use Rattle.std.specs.Prelude.{◌≡◌, Bool, true, false, List, ℕ}
use Rattle.message.specs.Message.{Address}
use Rattle.peers.specs.Names.{Keeps as KeepsNames}
use Rattle.delivery.specs.Post.{Post}
use Rattle.delivery.specs.Memory.{Keeps as KeepsPost}
use Rattle.audits_mail.specs.Answers.{MessageTo, Delivers}

-- r says whether the bytes are a message with that number to that address
pub record Addressed (x : ℕ) (a : Address) (s : List ℕ) (r : Bool) : Type 0 where
  pub yes : r ≡ true → MessageTo x a s
  pub no : r ≡ false → MessageTo x a s → ⊥

-- r says whether place p is free or has such a message, if memory keeps the addresses of peers and what is known of them
pub record Fine (lens names places mail : List ℕ) (width size p : ℕ) (r : Bool) : Type 0 where
  pub yes : r ≡ true → (n : ℕ) (N : ℕ → Address) → KeepsNames lens names width n N → (counts : List ℕ) (P : Post)
      → KeepsPost counts places mail size n P → Delivers places mail size N p
  pub no : r ≡ false → (n : ℕ) (N : ℕ → Address) → KeepsNames lens names width n N → (counts : List ℕ) (P : Post)
      → KeepsPost counts places mail size n P → Delivers places mail size N p → ⊥
