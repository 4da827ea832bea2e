-- How an address gets its number among the peers: what the private functions answer.
-- Assumes nothing.
use Rattle.std.specs.Prelude.{◌≡◌, ◌⊎◌, List, ℕ, min, ◌+◌, ◌/◌, ◌≤◌, ◌<◌, length, Option, Some, None}
use Rattle.message.specs.Message.{Address}
use Rattle.peers.specs.Names.{Keeps as KeepsNames, places, joined as named}
use Rattle.delivery.specs.Post.{Post, joined}
use Rattle.delivery.specs.Memory.{Keeps as KeepsPost}
use Rattle.hosts.specs.Says.{Strange}

-- there is room for one more peer with the address a, after n
abbrev pub Roomy : (name_lens names counts : List ℕ) → (width n : ℕ) → Address → Type 0
Roomy name_lens names counts width n a = (length a ≤ width) × (n < min (places name_lens names width) (length counts / 3))

-- the peer i of n, who are n' now, has the address a, and nothing has changed
pub record Old (name_lens names counts : List ℕ) (width n : ℕ) (a : Address) (i n' : ℕ) (nameLens' names' counts' : List ℕ) : Type 0 where
  pub same_lens : nameLens' ≡ name_lens
  pub same_names : names' ≡ names
  pub same_counts : counts' ≡ counts
  pub as_many : n' ≡ n
  pub is : (N : ℕ → Address) → KeepsNames name_lens names width n N → (i < n) × (N i ≡ a)

-- .. or one more peer, i, has it, of whom nothing is known, if none had it before
pub record New (name_lens names counts : List ℕ) (width n : ℕ) (a : Address) (i n' : ℕ) (nameLens' names' counts' : List ℕ) : Type 0 where
  pub next : i ≡ n
  pub one_more : n' ≡ n + 1
  pub keeps_names : (N : ℕ → Address) → KeepsNames name_lens names width n N → Strange N n a → KeepsNames nameLens' names' width (n + 1) (named n a N)
  pub keeps_post : (places mail : List ℕ) (size : ℕ) (P : Post) → KeepsPost counts places mail size n P
      → KeepsPost counts' places mail size (n + 1) (joined n P)

-- a new peer has a place, or there is none and nothing has changed
abbrev pub JoinCases : Option (ℕ × ℕ) → (name_lens names counts : List ℕ) → (width n : ℕ) → Address → (nameLens' names' counts' : List ℕ) → Type 0
JoinCases (Some (i, n')) name_lens names counts width n a nameLens' names' counts' = New name_lens names counts width n a i n' nameLens' names' counts'
JoinCases None name_lens names counts width n a nameLens' names' counts' =
    (nameLens' ≡ name_lens) × (names' ≡ names) × (counts' ≡ counts) × (0 < width → Roomy name_lens names counts width n a → ⊥)

pub record AfterJoin (name_lens names counts : List ℕ) (width n : ℕ) (a : Address) (r : Option (ℕ × ℕ)) (nameLens' names' counts' : List ℕ) : Type 0 where
  pub is : JoinCases r name_lens names counts width n a nameLens' names' counts'

-- the address is known, or is that of none of the n peers and was to join them
abbrev pub SeatCases : Option (ℕ × ℕ) → (name_lens names counts : List ℕ) → (width n : ℕ) → Address → (nameLens' names' counts' : List ℕ) → Type 0
SeatCases (Some (i, n')) name_lens names counts width n a nameLens' names' counts' =
    Old name_lens names counts width n a i n' nameLens' names' counts'
    ⊎ ((N : ℕ → Address) → KeepsNames name_lens names width n N → Strange N n a) × New name_lens names counts width n a i n' nameLens' names' counts'
SeatCases None name_lens names counts width n a nameLens' names' counts' =
    ((N : ℕ → Address) → KeepsNames name_lens names width n N → Strange N n a) × JoinCases None name_lens names counts width n a nameLens' names' counts'

pub record AfterSeat (name_lens names counts : List ℕ) (width n : ℕ) (a : Address) (r : Option (ℕ × ℕ)) (nameLens' names' counts' : List ℕ) : Type 0 where
  pub is : SeatCases r name_lens names counts width n a nameLens' names' counts'
