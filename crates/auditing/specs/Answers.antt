-- Whether memory keeps a host. `Keeps` lets a message wait that may not be written, with a number of more than 64 bits for one; bytes do not tell
-- such a message from others, so what is said is of hosts whose messages may be written.
-- Assumes nothing.
use Rattle.std.specs.Prelude.{◌≡◌, Bool, true, false, List, ℕ}
use Rattle.protocol.specs.State.{Host}
use Rattle.hosts.specs.declared.State.{State}
use Rattle.hosts.specs.Memory.{Memory}
use Rattle.hosts.specs.Keeps.{Keeps}
use Rattle.auditing.specs.Sendable.{Sendable}

-- r says whether memory keeps a host at all
pub record Audited (m : Memory) (k : State) (room : List ℕ) (r : Bool) : Type 0 where
  pub yes : r ≡ true → (h : Host) × Keeps m k room h × Sendable h
  pub no : r ≡ false → (h : Host) → Keeps m k room h → Sendable h → ⊥
