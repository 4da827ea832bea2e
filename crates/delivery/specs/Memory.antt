-- How lent memory keeps what a host knows of its peers. `counts` has three words a peer: the number of the last message taken, how many it has
-- acknowledged, and the number of the last message sent. `places` has three words a place for a waiting message: the peer's number and one more,
-- or 0 if the place is free; the message's number; the datagram's length. `mail` has the datagrams at a stride of `size` bytes. A message may stand
-- in any place; it is found by its peer and number.
-- Assumes nothing.
use Rattle.std.specs.Prelude.{◌≡◌, List, [], ℕ, suc, ◌+◌, ◌*◌, ◌/◌, ◌≤◌, ◌<◌, length, get_or}
use Rattle.memory.specs.Bytes.{part}
use Rattle.delivery.specs.Post.{Post, last}

-- ---- the words of a peer

abbrev pub received_of : List ℕ → ℕ → ℕ
received_of counts i = get_or counts (i * 3) 0

abbrev pub acknowledged_of : List ℕ → ℕ → ℕ
acknowledged_of counts i = get_or counts (i * 3 + 1) 0

abbrev pub last_of : List ℕ → ℕ → ℕ
last_of counts i = get_or counts (i * 3 + 2) 0

-- ---- the words of a place, and its datagram

-- how many places there are
abbrev pub capacity : List ℕ → ℕ
capacity places = length places / 3

-- 0 for a free place, and one more than the peer's number else
abbrev pub mark_at : List ℕ → ℕ → ℕ
mark_at places p = get_or places (p * 3) 0

abbrev pub number_at : List ℕ → ℕ → ℕ
number_at places p = get_or places (p * 3 + 1) 0

abbrev pub length_at : List ℕ → ℕ → ℕ
length_at places p = get_or places (p * 3 + 2) 0

abbrev pub datagram_at : (places mail : List ℕ) → ℕ → ℕ → List ℕ
datagram_at places mail size p = part mail (p * size) (length_at places p)

-- ---- what is kept

-- c places, seen as their marks, numbers and datagrams, hold exactly what waits for the first n peers: each message is in one place
pub record Holding (c : ℕ) (mark number : ℕ → ℕ) (datagram : ℕ → List ℕ) (n : ℕ) (P : Post) : Type 0 where
  pub here : (i j : ℕ) → i < n → j < length (P.waiting i)
      → (p : ℕ) × (p < c) × (mark p ≡ suc i) × (number p ≡ suc (P.acknowledged i + j)) × (datagram p ≡ get_or (P.waiting i) j [])
  pub only : (p i : ℕ) → p < c → mark p ≡ suc i → (i < n) × (P.acknowledged i < number p) × (number p ≤ last P i)
  pub apart : (p q : ℕ) → p < c → q < c → 0 < mark p → mark p ≡ mark q → number p ≡ number q → p ≡ q

-- Memory keeps P for the first n peers
pub record Keeps (counts places mail : List ℕ) (size n : ℕ) (P : Post) : Type 0 where
  pub wide : 0 < size
  pub fits_counts : n * 3 ≤ length counts
  pub fits_mail : capacity places * size ≤ length mail
  pub received : (i : ℕ) → i < n → received_of counts i ≡ P.received i
  pub acknowledged : (i : ℕ) → i < n → acknowledged_of counts i ≡ P.acknowledged i
  pub sent : (i : ℕ) → i < n → last_of counts i ≡ last P i
  pub short : (p : ℕ) → p < capacity places → 0 < mark_at places p → length_at places p ≤ size
  pub holding : Holding (capacity places) (mark_at places) (number_at places) (datagram_at places mail size) n P

-- place p is there, and free
pub record Open (places : List ℕ) (p : ℕ) : Type 0 where
  pub within : p < capacity places
  pub free : mark_at places p ≡ 0

-- the datagram stands in place p, for peer i, with the number x
pub record Standing (places mail : List ℕ) (size p i x : ℕ) (bytes : List ℕ) : Type 0 where
  pub within : p < capacity places
  pub mark : mark_at places p ≡ suc i
  pub number : number_at places p ≡ x
  pub is : datagram_at places mail size p ≡ bytes
