-- The messages that hosts and clients send each other (document 01, section 3), before they are bytes.
-- Assumes nothing.
use Rattle.std.specs.Prelude.{List, ℕ}
use Rattle.std.proofs.Math.Option.{Option}
use Rattle.keys.specs.declared.Bound.{Bound}
use Rattle.format.specs.Format.{Entry}

-- a host's or a client's address: a byte string
abbrev pub Address : Type 0
Address = List ℕ

pub data Body : Type 0 where
  -- what does the key hold?
  get : ℕ → Body
  -- store the value under the key; with none, take the key out
  set : ℕ → Option (List ℕ) → Body
  -- what the key holds, or what was stored
  reply : ℕ → Option (List ℕ) → Body
  -- the key is that host's
  redirect : ℕ → Address → Body
  -- give the range [lo, hi) to that host
  shard : Bound → Bound → Address → Body
  -- the range [lo, hi) is yours, with these entries
  delegate : Bound → Bound → List Entry → Body

pub data Datagram : Type 0 where
  -- the message with this number, to this address
  message : ℕ → Address → Body → Datagram
  -- the message with this number has arrived
  ack : ℕ → Datagram
