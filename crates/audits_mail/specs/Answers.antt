-- Whether the datagrams that wait are messages.
-- Assumes nothing.
use Rattle.std.specs.Prelude.{◌≡◌, Bool, true, false, List, ℕ, suc, ◌<◌}
use Rattle.message.specs.Message.{Address, Body, message}
use Rattle.message.specs.Table.{written, Valid as Writable}
use Rattle.peers.specs.Names.{Keeps as KeepsNames}
use Rattle.delivery.specs.Post.{Post}
use Rattle.delivery.specs.Memory.{Keeps as KeepsPost, capacity, mark_at, number_at, datagram_at}

-- the bytes are those of a message with that number to that address, and it may be written
abbrev pub MessageTo : ℕ → Address → List ℕ → Type 0
MessageTo x a s = (b : Body) × Writable (message x a b) × (written (message x a b) ≡ s)

-- place p is free, or its datagram is a message with the place's number to the address of the place's peer, peer i having the address N i
abbrev pub Delivers : (places mail : List ℕ) → ℕ → (ℕ → Address) → ℕ → Type 0
Delivers places mail size N p = (i : ℕ) → mark_at places p ≡ suc i → MessageTo (number_at places p) (N i) (datagram_at places mail size p)

abbrev pub Mailed : (places mail : List ℕ) → ℕ → (ℕ → Address) → Type 0
Mailed places mail size N = (p : ℕ) → p < capacity places → Delivers places mail size N p

-- r says whether that is so of each place, if memory keeps the addresses of peers and what is known of them
pub record Valid (lens names places mail : List ℕ) (width size : ℕ) (r : Bool) : Type 0 where
  pub yes : r ≡ true → (n : ℕ) (N : ℕ → Address) → KeepsNames lens names width n N → (counts : List ℕ) (P : Post)
      → KeepsPost counts places mail size n P → Mailed places mail size N
  pub no : r ≡ false → (n : ℕ) (N : ℕ → Address) → KeepsNames lens names width n N → (counts : List ℕ) (P : Post)
      → KeepsPost counts places mail size n P → Mailed places mail size N → ⊥
