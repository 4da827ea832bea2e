-- What a step answers, and how messages are numbered, sent and acknowledged (document 01, section 4).
-- Assumes nothing.
use Rattle.std.specs.Prelude.{Bool, List, [], ◌∷◌, ◌++◌, ℕ, suc, ◌+◌, ◌-◌, length, drop, ltb}
use Rattle.std.proofs.Math.Option.{Option, none}
use Rattle.format.specs.Number.{numbers}
use Rattle.message.specs.Message.{Address, Body, message, ack}
use Rattle.message.specs.Table.{written}
use Rattle.protocol.specs.Address.{at}
use Rattle.protocol.specs.Records.{Value}
use Rattle.protocol.specs.State.{Host, delivered}

-- a datagram that is handed out, and where it is to go
pub record Packet : Type 0 where
  pub to : Address
  pub bytes : List ℕ

-- what became of a step
pub data Outcome : Type 0 where
  -- receiving: the room is taken; the bytes are no message; the message is for another; it was taken; there might be no room for what it asks;
  -- it was taken before and is acknowledged again; it is from the future; what was sent has arrived; an Ack says nothing new
  full : Outcome
  invalid : Outcome
  elsewhere : Outcome
  taken : Outcome
  unreceived : Outcome
  again : Outcome
  future : Outcome
  arrived : Outcome
  stale : Outcome
  -- processing: there is nothing; the count of transfers is at its limit; answered; told whose the key is; dropped; there is no number left to
  -- answer with; a transfer was taken; a range was handed over
  idle : Outcome
  stuck : Outcome
  replied : Outcome
  redirected : Outcome
  dropped : Outcome
  unnumbered : Outcome
  accepted : Outcome
  handed : Outcome
  -- sending again; not the turn for it
  resent : Outcome
  waits : Outcome

-- a request that was carried out, with its answer
pub data Act : Type 0 where
  got : ℕ → Option Value → Act
  stored : ℕ → Option Value → Act

pub record Request : Type 0 where
  pub from : Address
  pub number : ℕ
  pub act : Act

pub record Step : Type 0 where
  pub state : Host
  pub sends : List Packet
  pub outcome : Outcome
  pub executed : Option Request

-- nothing changes and nothing is sent
abbrev pub still : Host → Outcome → Step
still h o = record { state = h; sends = []; outcome = o; executed = none }

-- ---- sending

-- the number that the next message to a gets
abbrev pub next : Host → Address → ℕ
next h a = h.acknowledged a + length (h.waiting a) + 1

-- the host with one more message waiting for a
abbrev pub posted : Address → Body → Host → Host
posted a b h = delivered h.acknowledged (at a (h.waiting a ++ (b ∷ [])) h.waiting) h

abbrev pub packet : ℕ → Address → Body → Packet
packet n a b = record { to = a; bytes = written (message n a b) }

-- is there a number for another message to a?
abbrev pub numbered : Host → Address → Bool
numbered h a = ltb (next h a) numbers

-- ---- acknowledging

abbrev pub ack_to : Address → ℕ → Packet
ack_to a n = record { to = a; bytes = written (ack n) }

-- the messages up to n have arrived at a. An Ack from the future drops all that wait and skips numbers (change request C6)
abbrev pub confirmed : Address → ℕ → Host → Host
confirmed a n h =
    delivered (at a n h.acknowledged) (at a (drop (n - h.acknowledged a) (h.waiting a)) h.waiting) h

-- the messages that wait for a, each with its number
abbrev pub numbered_from : ℕ → Address → List Body → List Packet
numbered_from n a [] = []
numbered_from n a (b ∷ l) = packet n a b ∷ numbered_from (suc n) a l
