-- A host's lent memory as its slices, and what stands in it at one place: the name of a peer, a datagram that is handed out.
-- Assumes nothing.
use Rattle.std.specs.Prelude.{List, ℕ, ◌*◌, ◌-◌, get_or}
use Rattle.lent.specs.declared.Map.{Map}
use Rattle.lent.specs.declared.Index.{Index}
use Rattle.lent.specs.declared.Strings.{Strings}
use Rattle.lent.specs.declared.Post.{Post}
use Rattle.memory.specs.Bytes.{part}
use Rattle.message.specs.Message.{Address}
use Rattle.delivery.specs.Memory.{mark_at, datagram_at}
use Rattle.protocol.specs.Delivery.{Packet}

-- the map, the table, the names, and delivery; the room for a message that was received is lent beside them
pub record Memory : Type 0 where
  pub lows : List ℕ
  pub owners : List ℕ
  pub keys : List ℕ
  pub slots : List ℕ
  pub lens : List ℕ
  pub values : List ℕ
  pub name_lens : List ℕ
  pub names : List ℕ
  pub counts : List ℕ
  pub places : List ℕ
  pub mail : List ℕ

abbrev pub memory : (lows owners keys slots lens values name_lens names counts places mail : List ℕ) → Memory
memory lows owners keys slots lens values name_lens names counts places mail = record {
  lows = lows;
  owners = owners;
  keys = keys;
  slots = slots;
  lens = lens;
  values = values;
  name_lens = name_lens;
  names = names;
  counts = counts;
  places = places;
  mail = mail;
}

-- the same from what stands in the parts that code is lent
abbrev pub memory_of : Map (List ℕ) → Index (List ℕ) → (values names : Strings (List ℕ) (List ℕ)) → Post (List ℕ) → (mail : List ℕ) → Memory
memory_of m x v n p mail = memory m.lows m.owners x.keys x.slots v.lens v.bytes n.lens n.bytes p.counts p.places mail

-- the address of peer i
abbrev pub name_at : (name_lens names : List ℕ) → ℕ → ℕ → Address
name_at name_lens names width i = part names (i * width) (get_or name_lens i 0)

-- the datagram in place p, and whom it is for
abbrev pub packet_at : Memory → (width size : ℕ) → ℕ → Packet
packet_at m width size p = record {
  to = name_at m.name_lens m.names width (mark_at m.places p - 1);
  bytes = datagram_at m.places m.mail size p;
}
