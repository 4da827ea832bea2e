-- What the private function answers. A caller of the crate need not read this.
-- Assumes nothing.
use Rattle.std.specs.Prelude.{◌≡◌, Bool, true, false, List, ℕ, ◌<◌}
use Rattle.std.proofs.Math.Option.{some}
use Rattle.message.specs.Message.{message}
use Rattle.decoding.specs.Decode.{read}
use Rattle.protocol.specs.State.{Host, Letter}
use Rattle.hosts.specs.declared.State.{State}
use Rattle.hosts.specs.Memory.{Memory, memory, name_at}
use Rattle.hosts.specs.Limits.{Needs}
use Rattle.hosts.specs.Keeps.{Core, limits_of}

-- the datagram s from peer `k.from` is the letter l, and what it needs is there
pub record Is (m : Memory) (k : State) (room : List ℕ) (h : Host) (s : List ℕ) (l : Letter) : Type 0 where
  pub from : name_at m.name_lens m.names k.width k.from ≡ l.from
  pub letter : read s ≡ some (message l.number h.me l.body)
  pub needs : Needs (limits_of m k room) h l l.body

-- r says whether it is a letter, for every host that memory may keep the same one
pub record Held (lows owners keys slots name_lens names places : List ℕ) (k : State) (s : List ℕ) (r : Bool) : Type 0 where
  pub yes : r ≡ true → (l : Letter) × ((lens values counts mail room : List ℕ) (h : Host)
      → Core (memory lows owners keys slots lens values name_lens names counts places mail) k h → k.from < k.peers
      → Is (memory lows owners keys slots lens values name_lens names counts places mail) k room h s l)
  pub no : r ≡ false → (lens values counts mail room : List ℕ) (h : Host) (l : Letter)
      → Core (memory lows owners keys slots lens values name_lens names counts places mail) k h → k.from < k.peers
      → Is (memory lows owners keys slots lens values name_lens names counts places mail) k room h s l → ⊥
