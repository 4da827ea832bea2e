-- What the private functions answer. A caller of the crate need not read this.
-- Assumes nothing.
use Rattle.std.specs.Prelude.{◌≡◌, false, List, ℕ, ◌-◌, ◌<◌, length, leb}
use Rattle.limits.specs.Limits.{entries_limit, transfers_limit}
use Rattle.keys.specs.declared.Bound.{Bound}
use Rattle.format.specs.Format.{number, maybe, Good}
use Rattle.message.specs.Message.{Address}
use Rattle.message.specs.Table.{key_of}
use Rattle.delegating.specs.Columns.{entered, Columns}
use Rattle.delegation.specs.Map.{room}
use Rattle.delivery.specs.Memory.{capacity}
use Rattle.protocol.specs.Records.{in_range}
use Rattle.protocol.specs.Owners.{giving}
use Rattle.protocol.specs.State.{Host}
use Rattle.protocol.specs.Delivery.{numbered}
use Rattle.protocol.specs.Process.{handing, on_shard}
use Rattle.hosts.specs.declared.State.{State}
use Rattle.hosts.specs.declared.Done.{Done}
use Rattle.hosts.specs.Memory.{memory}
use Rattle.hosts.specs.Limits.{waiting_for, Bounded}
use Rattle.hosts.specs.Keeps.{Core}
use Rattle.hosts.specs.Answers.{Does}

-- ---- the range handed over

-- the host that gets the range, and if its entries are few enough, there is room for the Delegate and in the map
pub record Offered (lows owners places : List ℕ) (k : State) (lo hi : Bound) (i : ℕ) (h : Host) (a : Address) : Type 0 where
  pub few : h.transfers < transfers_limit - 2
  pub host : i < k.hosts
  pub low : Good (maybe number) (key_of lo)
  pub high : Good (maybe number) (key_of hi)
  pub place : leb entries_limit (length (in_range lo hi h.records)) ≡ false → waiting_for h h.peers < capacity places
  pub bounds : leb entries_limit (length (in_range lo hi h.records)) ≡ false → Bounded (room lows owners) h (giving lo hi a h.owners)

pub record AfterOffer (lows owners keys slots lens values name_lens names counts places mail : List ℕ) (k : State) (lo hi : Bound) (i : ℕ) (r : Done)
    (lows' owners' keys' slots' counts' places' mail' : List ℕ) : Type 0 where
  pub freed : r.state.len ≡ 0
  pub is : (h : Host) (C : Core (memory lows owners keys slots lens values name_lens names counts places mail) k h)
      → Offered lows owners places k lo hi i h (C.N i)
      → Does (memory lows' owners' keys' slots' lens values name_lens names counts' places' mail') r.state r.outcome
      (on_shard (leb entries_limit (length (in_range lo hi h.records))) h lo hi (C.N i))

-- the columns have the range's entries, few enough, and there is room for the Delegate and in the map
pub record Ready (lows owners values places : List ℕ) (k : State) (lo hi : Bound) (i : ℕ) (ks ats ls : List ℕ) (m : ℕ) (h : Host) (a : Address)
    : Type 0 where
  pub few : h.transfers < transfers_limit - 2
  pub host : i < k.hosts
  pub low : Good (maybe number) (key_of lo)
  pub high : Good (maybe number) (key_of hi)
  pub count : m < entries_limit
  pub columns : Columns ks ats ls values m
  pub list : entered ks ats ls values 0 m ≡ in_range lo hi h.records
  pub place : waiting_for h h.peers < capacity places
  pub bounds : Bounded (room lows owners) h (giving lo hi a h.owners)

pub record AfterHand (lows owners keys slots values name_lens names counts places mail : List ℕ) (k : State) (lo hi : Bound) (i : ℕ)
    (ks ats ls : List ℕ) (m : ℕ) (r : Done) (lows' owners' keys' slots' counts' places' mail' : List ℕ) : Type 0 where
  pub freed : r.state.len ≡ 0
  pub is : (lens : List ℕ) (h : Host) (C : Core (memory lows owners keys slots lens values name_lens names counts places mail) k h)
      → Ready lows owners values places k lo hi i ks ats ls m h (C.N i)
      → Does (memory lows' owners' keys' slots' lens values name_lens names counts' places' mail') r.state r.outcome
      (handing (numbered h (C.N i)) h lo hi (C.N i))
