-- What holds at every moment of a run, so that the theorem does. It speaks of the world's parts and not of datagrams that were handed out, but for
-- the last clause.
-- Assumes nothing.
use mathlib.Core.Path.{◌≡◌}
use mathlib.Core.Bool.{Bool, true, cond, false}
use mathlib.Core.List.{List, [], ◌∷◌, ◌++◌}
use mathlib.Core.Option.{some, none}
use Prim.Native.Nat.{ℕ, suc, ◌+◌, ◌-◌, ◌≤◌, ◌<◌}
use lib.ListN.{length, drop}
use Rattle.limits.specs.Limits.{bytes_max, value_max}
use Rattle.format.specs.Number.{numbers}
use Rattle.format.specs.Format.{Entry, Above}
use Rattle.message.specs.Message.{Address, Body, get, set, reply, redirect, shard, delegate, Datagram, message, ack}
use Rattle.message.specs.Table.{written, Valid}
use Rattle.protocol.specs.Address.{among}
use Rattle.protocol.specs.Records.{look}
use Rattle.protocol.specs.Owners.{owner_of}
use Rattle.protocol.specs.State.{Host, Letter}
use Rattle.world.specs.World.{Sent, Executed, World}
use Rattle.world.specs.Events.{nth}
use Rattle.world.specs.Claims.{mine, in_room, moves, says}
use Rattle.world.specs.Single.{table_of, Answered, Once}
use Rattle.world.specs.Theorem.{Explains}
use Rattle.world.proofs.Lists.{All}
use Rattle.world.proofs.Sums.{sum, sum2}
use Rattle.world.proofs.Links.{Link}

abbrev pub States : Type 0
States = Address → Host

abbrev pub Moves : Type 0
Moves = Address → Address → List Body

-- ---- one host

-- an entry that a table keeps
abbrev pub Kept : Entry → Type 0
Kept e = (e.key < numbers) × (length e.value ≤ value_max)

-- what the message with the number n, from the host x to c, says is so: a Reply answers a request that was carried out, a Redirect names a host
abbrev pub Told : (H : List Address) → List Executed → (x c : Address) → ℕ → Body → Type 0
Told H E x c n (get k) = Unit
Told H E x c n (set k v) = Unit
Told H E x c n (reply k v) = (e : Executed) × Explains E x c n k v e
Told H E x c n (redirect k a) = among a H ≡ true
Told H E x c n (shard lo hi a) = Unit
Told H E x c n (delegate lo hi es) = Unit

-- messages with the numbers from n on may be written, and are true
abbrev pub Outgoing : (H : List Address) → List Executed → (x c : Address) → ℕ → List Body → Type 0
Outgoing H E x c n [] = Unit
Outgoing H E x c n (b ∷ l) = Valid (message n c b) × Told H E x c n b × Outgoing H E x c (suc n) l

-- the letter in the room of the host x is the last that was received from its sender, and was not carried out
pub record Lettered (E : List Executed) (x : Address) (h : Host) (l : Letter) : Type 0 where
  pub last : l.number ≡ h.received l.from
  pub valid : Valid (message l.number x l.body)
  pub known : among l.from h.peers ≡ true
  pub short : length l.from < bytes_max
  pub undone : All (λ e. e.host ≡ x → e.request.from ≡ l.from → e.request.number < l.number) E

pub record Local (H : List Address) (E : List Executed) (x : Address) (h : Host) : Type 0 where
  pub me_is : h.me ≡ x
  pub hosts_are : h.hosts ≡ H
  pub owner_in : (k : ℕ) → among (owner_of h.owners k) H ≡ true
  -- hosts have a place, and so has whoever something waits for
  pub hosts_known : (a : Address) → among a H ≡ true → among a h.peers ≡ true
  pub waits_known : (a : Address) → (h.waiting a ≡ [] → ⊥) → among a h.peers ≡ true
  pub sorted : Above 0 h.records
  pub kept : All Kept h.records
  pub room_is : (l : Letter) → h.room ≡ some l → Lettered E x h l
  -- no request beyond what was received has been carried out, and no answer has a number beyond the last
  pub done : All (λ e. e.host ≡ x → e.request.number ≤ h.received e.request.from) E
  pub told : All (λ e. e.host ≡ x → e.answer ≤ h.acknowledged e.request.from + length (h.waiting e.request.from)) E
  pub numbered : (c : Address) → h.acknowledged c + length (h.waiting c) < numbers
  pub outgoing : (c : Address) → Outgoing H E x c (suc (h.acknowledged c)) (h.waiting c)

-- ---- two hosts

abbrev pub LinkOf : States → Moves → Moves → (a b : Address) → Type 0
LinkOf S M C a b = Link (M a b) (C a b) ((S a).waiting b) ((S a).acknowledged b) ((S b).received a) (in_room a (S b).room)

-- what is on its way from a to b
abbrev pub way : States → (a b : Address) → List Body
way S a b = in_room a (S b).room ++ drop ((S b).received a - (S a).acknowledged b) ((S a).waiting b)

-- ---- claims, counted

abbrev pub bit : Bool → ℕ
bit t = cond t 1 0

abbrev pub own : States → ℕ → Address → ℕ
own S k x = bit (mine (S x) x k)

abbrev pub moving : List Body → ℕ → ℕ
moving [] k = 0
moving (m ∷ l) k = bit (moves m k) + moving l k

abbrev pub ways : States → ℕ → Address → Address → ℕ
ways S k a b = moving (way S a b) k

abbrev pub total : List Address → States → ℕ → ℕ
total H S k = sum (own S k) H + sum2 (ways S k) H

-- ---- all of it

pub record Core (H : List Address) (S : States) (E : List Executed) (M C : Moves) : Type 0 where
  pub local : (x : Address) → among x H ≡ true → Local H E x (S x)
  pub link : (a b : Address) → among a H ≡ true → among b H ≡ true → LinkOf S M C a b
  pub one : (k : ℕ) → total H S k ≡ 1
  pub right : (k : ℕ) (x : Address) → among x H ≡ true → mine (S x) x k ≡ true → look k (S x).records ≡ table_of E k
  pub clean : (k : ℕ) (x : Address) → among x H ≡ true → mine (S x) x k ≡ false → look k (S x).records ≡ none
  pub right_way : (k : ℕ) (a b : Address) → among a H ≡ true → among b H ≡ true
      → All (λ m. moves m k ≡ true → says m k ≡ table_of E k) (way S a b)
  pub answered : Answered E
  pub once : Once E

-- what a datagram that was handed out says is so
abbrev pub Speaks : (H : List Address) → States → List Executed → Moves → Sent → Datagram → Type 0
Speaks H S E M p (message n a b) =
    (a ≡ p.to) × Told H E p.from p.to n b × (among p.to H ≡ true → (i : ℕ) × (n ≡ suc i) × (nth i (M p.from p.to) ≡ some b))
Speaks H S E M p (ack n) = among p.to H ≡ true → n ≤ (S p.from).received p.to

pub record Spoken (H : List Address) (S : States) (E : List Executed) (M : Moves) (p : Sent) : Type 0 where
  pub datagram : Datagram
  pub valid : Valid datagram
  pub bytes : p.bytes ≡ written datagram
  pub from : among p.from H ≡ true
  pub speaks : Speaks H S E M p datagram

pub record Always (H : List Address) (W : World) : Type 0 where
  pub hosts_are : W.hosts ≡ H
  pub core : Core H W.state W.executed W.made W.carried
  pub net : All (Spoken H W.state W.executed W.made) W.sent
