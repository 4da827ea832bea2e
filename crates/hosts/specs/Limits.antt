-- The limits that lent memory sets, and the room test of document 01, section 6: what there must be room for before a message is received.
-- Assumes nothing.
use Rattle.std.specs.Prelude.{◌≡◌, Bool, true, false, cond, List, [], ◌∷◌, ℕ, suc, ◌+◌, ◌≤◌, ◌<◌, length, ltb}
use Rattle.std.proofs.Math.Option.{Option, none, some}
use Rattle.message.specs.Message.{Address, Body, get, set, reply, redirect, shard, delegate}
use Rattle.delegation.specs.Map.{Takes}
use Rattle.decoding.specs.Decode.{same}
use Rattle.protocol.specs.Address.{among}
use Rattle.protocol.specs.Records.{Value, look, replacing}
use Rattle.protocol.specs.Owners.{Owners, owner_of, giving}
use Rattle.protocol.specs.State.{Host, Letter}
use Rattle.protocol.specs.Process.{long, unfit, refused}

-- so many entries, bounds, peers, waiting messages, bytes of an address and bytes of a datagram
pub record Limits : Type 0 where
  pub entries : ℕ
  pub bounds : ℕ
  pub peers : ℕ
  pub waiting : ℕ
  pub address : ℕ
  pub datagram : ℕ

-- ---- counts

-- how many messages wait, for these addresses in all
abbrev pub waiting_for : Host → List Address → ℕ
waiting_for h [] = 0
waiting_for h (a ∷ l) = length (h.waiting a) + waiting_for h l

-- where on the list the address stands
abbrev pub index_of : Address → List Address → ℕ
index_of a [] = 0
index_of a (b ∷ l) = cond (same a b) 0 (suc (index_of a l))

-- the owner of each key, as its place on the list of hosts, takes at most so many bounds
abbrev pub Bounded : ℕ → Host → Owners → Type 0
Bounded most h o = (m : ℕ) × Takes (λ k. index_of (owner_of o k) h.hosts) m × (m ≤ most)

-- ---- room

-- there is a place for one more message
abbrev pub Place : Limits → Host → Type 0
Place L h = waiting_for h h.peers < L.waiting

-- What carrying a message out needs: an answer a place; a transfer a map and a table that fit after it. What is only dropped needs nothing, and a
-- Set never needs room in the table, since one that finds it full is dropped
abbrev pub Needs : Limits → Host → Letter → Body → Type 0
Needs L h l (get k) = Place L h
Needs L h l (set k v) = long v ≡ false → Place L h
Needs L h l (shard lo hi a) = refused h lo hi a ≡ false → Place L h × Bounded L.bounds h (giving lo hi a h.owners)
Needs L h l (delegate lo hi es) =
    unfit h l lo hi es ≡ false → Bounded L.bounds h (giving lo hi h.me h.owners) × (length (replacing lo hi es h.records) ≤ L.entries)
Needs L h l (reply k v) = Unit
Needs L h l (redirect k a) = Unit

-- the sender has a place, or can get one
abbrev pub Known : Limits → Host → Address → Type 0
Known L h a = among a h.peers ≡ false → (length a ≤ L.address) × (length h.peers < L.peers)

-- there is room for all that the message may need
pub record Roomy (L : Limits) (h : Host) (l : Letter) (s : List ℕ) : Type 0 where
  pub bytes : length s ≤ L.datagram
  pub sender : Known L h l.from
  pub needs : Needs L h l l.body

-- ---- does the table have a place for the value of a Set?

abbrev pub is_there : Option Value → Bool
is_there none = false
is_there (some v) = true

abbrev pub fits_value : ℕ → Host → ℕ → Option Value → Bool
fits_value entries h k none = true
fits_value entries h k (some v) = cond (is_there (look k h.records)) true (ltb (length h.records) entries)

abbrev pub fits_body : ℕ → Host → Body → Bool
fits_body entries h (get k) = true
fits_body entries h (set k v) = fits_value entries h k v
fits_body entries h (reply k v) = true
fits_body entries h (redirect k a) = true
fits_body entries h (shard lo hi a) = true
fits_body entries h (delegate lo hi es) = true

abbrev pub fits_room : ℕ → Host → Option Letter → Bool
fits_room entries h none = true
fits_room entries h (some l) = fits_body entries h l.body
