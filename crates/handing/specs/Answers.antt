-- What handing a range over answers.
-- Assumes nothing.
use Rattle.std.specs.Prelude.{◌≡◌, true, false, List, ℕ, ◌-◌, ◌<◌, ltb}
use Rattle.limits.specs.Limits.{transfers_limit}
use Rattle.keys.specs.declared.Bound.{Bound}
use Rattle.format.specs.declared.Part.{Part}
use Rattle.message.specs.View.{bytes_of, PartIn}
use Rattle.delegation.specs.Map.{room}
use Rattle.delivery.specs.Memory.{capacity}
use Rattle.protocol.specs.Owners.{giving}
use Rattle.protocol.specs.State.{Host, Letter}
use Rattle.protocol.specs.Delivery.{Step}
use Rattle.protocol.specs.Process.{refused, on_shard}
use Rattle.hosts.specs.declared.State.{State}
use Rattle.hosts.specs.declared.Done.{Done}
use Rattle.hosts.specs.Memory.{memory}
use Rattle.hosts.specs.Limits.{waiting_for, Bounded}
use Rattle.hosts.specs.Answers.{AfterRow}

-- the recipient's address stands in the datagram s, and if the range is to be handed over, there is a place for the Delegate, and the map has room
-- for what there will be
pub record Handable (lows owners places s : List ℕ) (lo hi : Bound) (to : Part) (h : Host) (l : Letter) : Type 0 where
  -- the count of transfers is below its limit
  pub few : ltb h.transfers (transfers_limit - 2) ≡ true
  pub inside : PartIn s to
  pub place : refused h lo hi (bytes_of s to) ≡ false → waiting_for h h.peers < capacity places
  pub bounds : refused h lo hi (bytes_of s to) ≡ false → Bounded (room lows owners) h (giving lo hi (bytes_of s to) h.owners)

-- the row of the Shard
abbrev pub row : List ℕ → Bound → Bound → Part → Host → Letter → Step
row s lo hi to h l = on_shard (refused h lo hi (bytes_of s to)) h lo hi (bytes_of s to)

pub record AfterShard (lows owners keys slots lens values name_lens names counts places mail : List ℕ) (k : State) (s : List ℕ) (lo hi : Bound)
    (to : Part) (r : Done) (lows' owners' keys' slots' counts' places' mail' : List ℕ) : Type 0 where
  pub is : AfterRow (memory lows owners keys slots lens values name_lens names counts places mail) k (Handable lows owners places s lo hi to)
      (row s lo hi to) r (memory lows' owners' keys' slots' lens values name_lens names counts' places' mail')
