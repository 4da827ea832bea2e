-- Which host lent memory keeps.
-- Assumes nothing.
use Rattle.std.specs.Prelude.{◌≡◌, List, ℕ, min, ◌+◌, ◌*◌, ◌-◌, ◌/◌, ◌≤◌, ◌<◌, length, take}
use Rattle.std.proofs.Math.Option.{Option, none, some}
use Rattle.limits.specs.Limits.{bytes_max, value_max, entries_limit}
use Rattle.format.specs.Number.{width}
use Rattle.message.specs.Message.{Address, message}
use Rattle.decoding.specs.Decode.{read}
use Rattle.records.specs.Table.{Table}
use Rattle.records.specs.Memory.{Keeps as KeepsTable}
use Rattle.delegation.specs.Map.{Keeps as KeepsMap, room as mapRoom}
use Rattle.peers.specs.Names.{Keeps as KeepsNames, places as namePlaces}
use Rattle.delivery.specs.Post.{Post}
use Rattle.delivery.specs.Memory.{Keeps as KeepsPost, capacity}
use Rattle.protocol.specs.State.{Host, Letter}
use Rattle.hosts.specs.declared.State.{State}
use Rattle.hosts.specs.Memory.{Memory, name_at}
use Rattle.hosts.specs.Says.{Says}
use Rattle.hosts.specs.Limits.{Limits, Needs}

-- the bytes of the largest Delegate that a host sends, but for its destination: its front, two bounds, a list of one entry fewer than the limit
abbrev pub delegate_max : ℕ
delegate_max = 1 + width + width + 1 + (1 + width) + (1 + width) + (width + (entries_limit - 1) * (width + width + value_max))

-- .. and those of a Redirect, but for its two addresses
abbrev pub redirect_max : ℕ
redirect_max = 1 + width + width + 1 + (width + width)

-- addresses of w bytes are short enough to be written, and every message that a host sends fits a place for a datagram. (A Reply is never larger
-- than the largest Delegate)
pub record Sized (w size : ℕ) : Type 0 where
  pub address : w < bytes_max
  pub fits_delegate : delegate_max + w ≤ size
  pub fits_redirect : redirect_max + w + w ≤ size

-- Memory keeps the host h, whatever is in its room
pub record Core (m : Memory) (k : State) (h : Host) : Type 0 where
  pub N : ℕ → Address
  pub f : ℕ → ℕ
  pub T : Table
  pub P : Post
  pub sized : Sized k.width k.size
  pub names_kept : KeepsNames m.name_lens m.names k.width k.peers N
  pub map_kept : KeepsMap m.lows m.owners k.bounds f
  pub table_kept : KeepsTable m.keys m.slots m.lens m.values k.entries T
  pub post_kept : KeepsPost m.counts m.places m.mail k.size k.peers P
  pub says : Says N k.peers k.hosts k.me f T P h
  pub transfers_is : k.transfers ≡ h.transfers
  pub turns_is : k.turns ≡ h.turns

-- the limits that memory sets
abbrev pub limits_of : Memory → State → (room : List ℕ) → Limits
limits_of m k room = record {
  entries = length m.slots;
  bounds = mapRoom m.lows m.owners;
  peers = min (namePlaces m.name_lens m.names k.width) (length m.counts / 3);
  waiting = capacity m.places;
  address = k.width;
  datagram = length room;
}

-- the room is free, or the datagram in it is the letter, and what it needs is there
abbrev pub RoomCases : Memory → State → (room : List ℕ) → Host → Option Letter → Type 0
RoomCases m k room h none = k.len ≡ 0
RoomCases m k room h (some l) =
    (0 < k.len) × (k.len ≤ length room) × (k.from < k.peers) × (name_at m.name_lens m.names k.width k.from ≡ l.from)
    × (read (take k.len room) ≡ some (message l.number h.me l.body)) × Needs (limits_of m k room) h l l.body

-- Memory keeps the host h
pub record Keeps (m : Memory) (k : State) (room : List ℕ) (h : Host) : Type 0 where
  pub core : Core m k h
  pub room_is : RoomCases m k room h h.room
