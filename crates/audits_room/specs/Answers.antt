-- Whether the room is free or holds a message.
-- Assumes nothing.
use Rattle.std.specs.Prelude.{◌≡◌, Bool, true, false, List, ℕ}
use Rattle.std.proofs.Math.Option.{Option}
use Rattle.protocol.specs.State.{Host, Letter}
use Rattle.hosts.specs.declared.State.{State}
use Rattle.hosts.specs.Memory.{Memory}
use Rattle.hosts.specs.Keeps.{Core, RoomCases}

-- r says whether the room is free, or the datagram in it a letter, and what it needs there; for every host that memory may keep it is the same letter
pub record Valid (m : Memory) (k : State) (room : List ℕ) (r : Bool) : Type 0 where
  pub yes : r ≡ true → (o : Option Letter) × ((h : Host) → Core m k h → RoomCases m k room h o)
  pub no : r ≡ false → (o : Option Letter) (h : Host) → Core m k h → RoomCases m k room h o → ⊥
