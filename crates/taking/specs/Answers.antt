-- What taking a message into the room does.
-- Assumes nothing.
use Rattle.std.specs.Prelude.{◌≡◌, false, List, ℕ, min, ◌/◌, ◌≤◌, ◌<◌, length, take, Result, Ok, Err}
use Rattle.message.specs.Message.{Address, Body}
use Rattle.peers.specs.Names.{places}
use Rattle.protocol.specs.Address.{among, with_address, at}
use Rattle.protocol.specs.State.{Host, took}
use Rattle.hosts.specs.declared.State.{State}
use Rattle.hosts.specs.Memory.{memory, name_at}
use Rattle.hosts.specs.Keeps.{Core}
use Rattle.limits.specs.declared.NoRoom.{NoRoom}

-- what stands in the room after the datagram s came from the address a: its length, its bytes, and the sender's number
pub record InRoom (name_lens names : List ℕ) (k : State) (room s : List ℕ) (a : Address) : Type 0 where
  pub long : k.len ≡ length s
  pub fits : k.len ≤ length room
  pub bytes : take k.len room ≡ s
  pub from_in : k.from < k.peers
  pub from_is : name_at name_lens names k.width k.from ≡ a

-- the numbers that taking a message leaves as they were
pub record Kept (k k' : State) : Type 0 where
  pub me : k'.me ≡ k.me
  pub hosts : k'.hosts ≡ k.hosts
  pub width : k'.width ≡ k.width
  pub size : k'.size ≡ k.size
  pub bounds : k'.bounds ≡ k.bounds
  pub entries : k'.entries ≡ k.entries
  pub transfers : k'.transfers ≡ k.transfers
  pub turns : k'.turns ≡ k.turns

-- The message with the number x was taken from the address a and stands in the room; or there is no room for the datagram or no place for a new
-- peer, and nothing has changed
abbrev pub TakeCases : Result State NoRoom → (name_lens names counts room : List ℕ) → State → Address → ℕ → List ℕ → (nameLens' names' counts' room' : List ℕ) → Type 0
TakeCases (Ok k') name_lens names counts room k a x s nameLens' names' counts' room' =
    (lows owners keys slots lens values places mail : List ℕ) (h : Host)
    → Core (memory lows owners keys slots lens values name_lens names counts places mail) k h
    → ((b : Body) → Core (memory lows owners keys slots lens values nameLens' names' counts' places mail) k'
    (took a x b (with_address a h.peers) (at a x h.received) h))
    × InRoom nameLens' names' k' room' s a × Kept k k'
TakeCases (Err e) name_lens names counts room k a x s nameLens' names' counts' room' =
    (nameLens' ≡ name_lens) × (names' ≡ names) × (counts' ≡ counts) × (room' ≡ room)
    × ((lows owners keys slots lens values places' mail : List ℕ) (h : Host)
    → Core (memory lows owners keys slots lens values name_lens names counts places' mail) k h → length s ≤ length room
    → (among a h.peers ≡ false → (length a ≤ k.width) × (length h.peers < min (places name_lens names k.width) (length counts / 3))) → ⊥)

pub record AfterTake (name_lens names counts room : List ℕ) (k : State) (a : Address) (x : ℕ) (s : List ℕ) (r : Result State NoRoom)
    (nameLens' names' counts' room' : List ℕ) : Type 0 where
  pub is : TakeCases r name_lens names counts room k a x s nameLens' names' counts' room'
