-- A datagram arrives (document 01, sections 4 and 5). `roomy` is the answer of the room test: whether there is memory for all that the message may
-- need. It is asked only of a message that would be taken.
-- Assumes nothing.
use Rattle.std.specs.Prelude.{Bool, true, false, ◌&&◌, List, [], ◌∷◌, ℕ, suc, eqb, ltb, leb}
use Rattle.std.proofs.Math.Option.{Option, none, some}
use Rattle.message.specs.Message.{Address, Body, Datagram, message, ack}
use Rattle.decoding.specs.Decode.{same, read}
use Rattle.protocol.specs.Address.{among, with_address, at}
use Rattle.protocol.specs.State.{Host, Letter, took}
use Rattle.protocol.specs.Delivery.{Step, still, ack_to, confirmed, full, invalid, elsewhere, taken, unreceived, again, future, arrived, stale}

-- A message is new if its number is the one after the last. Then, and if it was taken before, it is answered with an Ack of that number. One
-- from the future is neither taken nor acknowledged
abbrev pub on_number : (new old roomy : Bool) → Host → Address → ℕ → Body → Step
on_number true old true h a n b = record {
  state = took a n b (with_address a h.peers) (at a n h.received) h;
  sends = ack_to a n ∷ [];
  outcome = taken;
  executed = none;
}
on_number true old false h a n b = still h unreceived
on_number false true roomy h a n b = record { state = h; sends = ack_to a n ∷ []; outcome = again; executed = none }
on_number false false roomy h a n b = still h future

-- a message for another host is not taken here: a transfer brought to the wrong host would be a second owner
abbrev pub on_message : (mine roomy : Bool) → Host → Address → ℕ → Body → Step
on_message true roomy h a n b = on_number (eqb n (suc (h.received a))) (leb n (h.received a)) roomy h a n b
on_message false roomy h a n b = still h elsewhere

abbrev pub on_ack : (more : Bool) → Host → Address → ℕ → Step
on_ack true h a n = record { state = confirmed a n h; sends = []; outcome = arrived; executed = none }
on_ack false h a n = still h stale

-- an Ack counts if it says more than was known, and comes from one to whom something may have been sent
abbrev pub on_datagram : Bool → Host → Address → Option Datagram → Step
on_datagram roomy h a none = still h invalid
on_datagram roomy h a (some (message n to b)) = on_message (same to h.me) roomy h a n b
on_datagram roomy h a (some (ack n)) = on_ack (among a h.peers && ltb (h.acknowledged a) n) h a n

-- while the room is taken every datagram is dropped, Acks too
abbrev pub on_room : Option Letter → Bool → Host → Address → List ℕ → Step
on_room (some l) roomy h a s = still h full
on_room none roomy h a s = on_datagram roomy h a (read s)

abbrev pub receive : Bool → Host → Address → List ℕ → Step
receive roomy h a s = on_room h.room roomy h a s
