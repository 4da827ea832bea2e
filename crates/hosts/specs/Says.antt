-- What a host knows by peers' numbers, and the abstract host by addresses: how the one says the other. N i is the address of peer i; the hosts come
-- first.
-- Assumes nothing.
use Rattle.std.specs.Prelude.{◌≡◌, List, [], ◌∷◌, ◌++◌, ℕ, zero, suc, ◌≤◌, ◌<◌}
use Rattle.format.specs.Format.{Above}
use Rattle.message.specs.Message.{Address, Body, message}
use Rattle.message.specs.Table.{written}
use Rattle.records.specs.Table.{Table}
use Rattle.delivery.specs.Post.{Post}
use Rattle.protocol.specs.Records.{look}
use Rattle.protocol.specs.Owners.{owner_of}
use Rattle.protocol.specs.State.{Host}

-- the addresses of the first n peers
abbrev pub firsts : (ℕ → Address) → ℕ → List Address
firsts N zero = []
firsts N (suc n) = firsts N n ++ (N n ∷ [])

-- messages to an address as datagrams, with the numbers from x on
abbrev pub datagrams : ℕ → Address → List Body → List (List ℕ)
datagrams x a [] = []
datagrams x a (b ∷ l) = written (message x a b) ∷ datagrams (suc x) a l

-- the address is that of none of the first n peers
abbrev pub Strange : (ℕ → Address) → ℕ → Address → Type 0
Strange N n a = (i : ℕ) → i < n → N i ≡ a → ⊥

-- n peers, the first `hosts` of them the hosts, `me` the own number; f the map, T the table, P what is known of peers
pub record Says (N : ℕ → Address) (n hosts me : ℕ) (f : ℕ → ℕ) (T : Table) (P : Post) (h : Host) : Type 0 where
  pub few : hosts ≤ n
  pub own : me < hosts
  pub me_is : N me ≡ h.me
  pub hosts_are : firsts N hosts ≡ h.hosts
  pub peers_are : firsts N n ≡ h.peers
  pub owner_in : (k : ℕ) → f k < hosts
  pub owner_is : (k : ℕ) → N (f k) ≡ owner_of h.owners k
  pub record_is : (k : ℕ) → T k ≡ look k h.records
  pub sorted : Above 0 h.records
  pub received_is : (i : ℕ) → i < n → P.received i ≡ h.received (N i)
  pub acknowledged_is : (i : ℕ) → i < n → P.acknowledged i ≡ h.acknowledged (N i)
  pub waiting_is : (i : ℕ) → i < n → P.waiting i ≡ datagrams (suc (h.acknowledged (N i))) (N i) (h.waiting (N i))
  -- nothing is known of anyone else
  pub strange_received : (a : Address) → Strange N n a → h.received a ≡ 0
  pub strange_acknowledged : (a : Address) → Strange N n a → h.acknowledged a ≡ 0
  pub strange_waiting : (a : Address) → Strange N n a → h.waiting a ≡ []
