-- Upstream's messages and tables (message_t, single_message_t, network_t, app_interface_t, abstract_parameters_t): a table is a partial map, and a
-- set of packets is what says of a packet whether it is in it.
-- Assumes nothing.
use Rattle.std.specs.Prelude.{◌≡◌, true, false, List, ℕ, suc, ◌-◌, ◌<◌, length}
use Rattle.std.proofs.Math.Option.{Option, none, some}
use Rattle.limits.specs.Limits.{value_max, entries_limit, numbers, transfers_limit as mostTransfers}
use Rattle.keys.specs.declared.Bound.{Bound}
use Rattle.keys.specs.Bound.{below, holds}
use Rattle.format.specs.Format.{Entry, Above}
use Rattle.message.specs.Message.{Address}
use Rattle.protocol.specs.Records.{Value, look}

-- keys_t, KeyRange
pub record Range : Type 0 where
  pub lo : Bound
  pub hi : Bound

abbrev pub Contains : Range → ℕ → Type 0
Contains r k = holds r.lo r.hi k ≡ true

abbrev pub IsEmpty : Range → Type 0
IsEmpty r = below r.lo r.hi ≡ false

-- app_interface_t: a table
abbrev pub Hashtable : Type 0
Hashtable = ℕ → Option Value

abbrev pub Has : Hashtable → ℕ → Type 0
Has h k = h k ≡ none → ⊥

-- it has n keys
abbrev pub Len : Hashtable → ℕ → Type 0
Len h n = (es : List Entry) × Above 0 es × ((k : ℕ) → look k es ≡ h k) × (length es ≡ n)

-- max_val_len, max_hashtable_size
abbrev pub max_val_len : ℕ
max_val_len = suc value_max

abbrev pub max_hashtable_size : ℕ
max_hashtable_size = entries_limit

abbrev pub ValidValue : Value → Type 0
ValidValue v = length v < max_val_len

abbrev pub ValidOptional : Option Value → Type 0
ValidOptional none = Unit
ValidOptional (some v) = ValidValue v

-- abstract_parameters_t
abbrev pub max_seqno : ℕ
max_seqno = numbers - 1

abbrev pub max_delegations : ℕ
max_delegations = mostTransfers

-- message_t
pub data Message : Type 0 where
  get_request : ℕ → Message
  set_request : ℕ → Option Value → Message
  reply : ℕ → Option Value → Message
  redirect : ℕ → Address → Message
  shard : Range → Address → Message
  delegate : Range → Hashtable → Message

-- single_message_t
pub data SingleMessage : Type 0 where
  message : (seqno : ℕ) → (dst : Address) → Message → SingleMessage
  ack : ℕ → SingleMessage
  invalid : SingleMessage

-- network_t
pub record Packet : Type 0 where
  pub dst : Address
  pub src : Address
  pub msg : SingleMessage

-- ---- sets of packets

abbrev pub Packets : Type 1
Packets = Packet → Type 0

abbrev pub Empty : Packets → Type 0
Empty s = (p : Packet) → s p → ⊥

-- the set of one packet
abbrev pub Only : Packet → Packets → Type 0
Only q s = (p : Packet) → (s p → p ≡ q) × (p ≡ q → s p)

abbrev pub SameSet : Packets → Packets → Type 0
SameSet s t = (p : Packet) → (s p → t p) × (t p → s p)
