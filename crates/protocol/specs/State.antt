-- The host: what it knows, and how it starts (document 01, sections 4 to 6).
-- Assumes nothing.
use Rattle.std.specs.Prelude.{Bool, true, cond, ◌&&◌, not, List, [], ◌∷◌, ℕ, length, ltb}
use Rattle.std.proofs.Math.Option.{Option, none, some}
use Rattle.limits.specs.Limits.{bytes_max}
use Rattle.format.specs.Format.{Entry}
use Rattle.message.specs.Message.{Address, Body}
use Rattle.protocol.specs.Address.{among}
use Rattle.protocol.specs.Owners.{Owners}

-- a message that was received and is not yet processed
pub record Letter : Type 0 where
  pub from : Address
  pub number : ℕ
  pub body : Body

pub record Host : Type 0 where
  -- the own address, and those of all hosts
  pub me : Address
  pub hosts : List Address
  pub owners : Owners
  pub records : List Entry
  -- who has a place: the hosts, and whoever a message was taken from
  pub peers : List Address
  -- per address: the number of the last message taken, how many the peer has acknowledged, and the messages after that, in order
  pub received : Address → ℕ
  pub acknowledged : Address → ℕ
  pub waiting : Address → List Body
  -- room for one message
  pub room : Option Letter
  -- how many transfers were made or taken, and whose turn it is
  pub transfers : ℕ
  pub turns : ℕ

-- ---- starting: at least one address, no two equal, each short enough, the own one among them. The first is the owner of everything

abbrev pub different : List Address → Bool
different [] = true
different (a ∷ l) = not (among a l) && different l

abbrev pub short : List Address → Bool
short [] = true
short (a ∷ l) = ltb (length a) bytes_max && short l

abbrev pub fresh : Address → List Address → Address → Host
fresh first hosts me = record {
  me = me;
  hosts = hosts;
  owners = record { first = first; grants = [] };
  records = [];
  peers = hosts;
  received = λ a. 0;
  acknowledged = λ a. 0;
  waiting = λ a. [];
  room = none;
  transfers = 1;
  turns = 0;
}

abbrev pub start : List Address → Address → Option Host
start [] me = none
start (a ∷ l) me = cond (different (a ∷ l) && (short (a ∷ l) && among me (a ∷ l))) (some (fresh a (a ∷ l) me)) none

-- ---- the kinds of change; all else stays

-- the message with the number n was taken from a
abbrev pub took : Address → ℕ → Body → List Address → (Address → ℕ) → Host → Host
took a n b peers received h = record {
  me = h.me;
  hosts = h.hosts;
  owners = h.owners;
  records = h.records;
  peers = peers;
  received = received;
  acknowledged = h.acknowledged;
  waiting = h.waiting;
  room = some (record { from = a; number = n; body = b });
  transfers = h.transfers;
  turns = h.turns;
}

-- what a peer has acknowledged, and what waits for it
abbrev pub delivered : (Address → ℕ) → (Address → List Body) → Host → Host
delivered acknowledged waiting h = record {
  me = h.me;
  hosts = h.hosts;
  owners = h.owners;
  records = h.records;
  peers = h.peers;
  received = h.received;
  acknowledged = acknowledged;
  waiting = waiting;
  room = h.room;
  transfers = h.transfers;
  turns = h.turns;
}

-- the message in the room is done with
abbrev pub done : Owners → List Entry → ℕ → Host → Host
done owners records transfers h = record {
  me = h.me;
  hosts = h.hosts;
  owners = owners;
  records = records;
  peers = h.peers;
  received = h.received;
  acknowledged = h.acknowledged;
  waiting = h.waiting;
  room = none;
  transfers = transfers;
  turns = h.turns;
}

abbrev pub turned : ℕ → Host → Host
turned n h = record {
  me = h.me;
  hosts = h.hosts;
  owners = h.owners;
  records = h.records;
  peers = h.peers;
  received = h.received;
  acknowledged = h.acknowledged;
  waiting = h.waiting;
  room = h.room;
  transfers = h.transfers;
  turns = n;
}
