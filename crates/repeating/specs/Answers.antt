-- What sending again answers.
-- Assumes nothing.
use Rattle.std.specs.Prelude.{◌≡◌, List, map, ℕ, ◌≤◌, ◌<◌, length, take, Result, Ok, Err}
use Rattle.delivery.specs.Memory.{capacity}
use Rattle.protocol.specs.State.{Host}
use Rattle.protocol.specs.Delivery.{Packet}
use Rattle.protocol.specs.Retransmit.{retransmit}
use Rattle.hosts.specs.declared.State.{State}
use Rattle.hosts.specs.Memory.{Memory, memory, packet_at}
use Rattle.hosts.specs.Keeps.{Core}
use Rattle.limits.specs.declared.NoRoom.{NoRoom}

-- the datagrams in the first m places that were written down, and whom they are for
abbrev pub packets : Memory → State → ℕ → List ℕ → List Packet
packets m k n out = map (packet_at m k.width k.size) (take n out)

-- the places of the datagrams that are handed out stand at the front of what was lent for them; or that has not as many places as there are for
-- waiting messages, and nothing has changed. Sending again changes nothing else
abbrev pub RepeatCases : Result ℕ NoRoom → (counts places : List ℕ) → State → (out out' : List ℕ) → Type 0
RepeatCases (Ok n) counts places k out out' =
    (n ≤ length out)
    × ((lows owners keys slots lens values name_lens names mail : List ℕ) (h : Host)
    → Core (memory lows owners keys slots lens values name_lens names counts places mail) k h
    → packets (memory lows owners keys slots lens values name_lens names counts places mail) k n out' ≡ (retransmit h).sends)
RepeatCases (Err e) counts places k out out' = (out' ≡ out) × (length out < capacity places)

pub record AfterRepeat (counts places : List ℕ) (k : State) (out : List ℕ) (r : Result ℕ NoRoom) (out' : List ℕ) : Type 0 where
  pub is : RepeatCases r counts places k out out'
