-- What sending a message answers: it is written into a free place and waits there, or it may not be written or does not fit the place. A body may
-- name peers, so it is a function of their addresses.
-- Assumes nothing.
use Rattle.std.specs.Prelude.{◌≡◌, Bool, true, false, List, ℕ, ◌+◌, ◌*◌, ◌≤◌, ◌<◌, length, Option, Some, None}
use Rattle.message.specs.Message.{Address, Body, message}
use Rattle.message.specs.Table.{written, Valid}
use Rattle.peers.specs.Names.{Keeps as KeepsNames}
use Rattle.delivery.specs.Post.{Post, next, posted}
use Rattle.delivery.specs.Memory.{Keeps as KeepsPost, Open, Standing}

-- place p has the bytes of the mail from one up to another, or there are not so many
abbrev pub SlotCases : Option (ℕ × ℕ) → (mail size p : ℕ) → Type 0
SlotCases (Some (from, to)) mail size p = (from ≡ p * size) × (to ≡ from + size) × (to ≤ mail)
SlotCases None mail size p = 0 < size → mail < p * size + size

pub record AfterSlot (mail size p : ℕ) (r : Option (ℕ × ℕ)) : Type 0 where
  pub is : SlotCases r mail size p

-- what is given to a function that sends: a peer, a free place for the message, and its number. `Q n` is what the body asks of n peers
pub record Given (name_lens names : List ℕ) (width : ℕ) (counts places mail : List ℕ) (size peer p x : ℕ) (Q : ℕ → Type 0) (n : ℕ) (N : ℕ → Address)
    (P : Post) : Type 0 where
  pub names_kept : KeepsNames name_lens names width n N
  pub post_kept : KeepsPost counts places mail size n P
  pub peer_in : peer < n
  pub place_open : Open places p
  pub number_is : x ≡ next P peer
  pub asked : Q n

-- the message waits in its place, or it may not be written or is too long and nothing has changed
pub record AfterSend (name_lens names : List ℕ) (width : ℕ) (counts places mail : List ℕ) (size peer p x : ℕ) (Q : ℕ → Type 0)
    (b : (ℕ → Address) → Body) (r : Bool) (counts' places' mail' : List ℕ) : Type 0 where
  pub sent : r ≡ true → (n : ℕ) (N : ℕ → Address) (P : Post) → Given name_lens names width counts places mail size peer p x Q n N P
      → KeepsPost counts' places' mail' size n (posted peer (written (message x (N peer) (b N))) P)
      × Standing places' mail' size p peer x (written (message x (N peer) (b N)))
  pub unsent : r ≡ false → (counts' ≡ counts) × (places' ≡ places) × (mail' ≡ mail)
      × ((n : ℕ) (N : ℕ → Address) (P : Post) → Given name_lens names width counts places mail size peer p x Q n N P
      → Valid (message x (N peer) (b N)) → length (written (message x (N peer) (b N))) ≤ size → ⊥)
