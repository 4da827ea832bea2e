-- What carrying a Set out answers.
-- Assumes nothing.
use Rattle.std.specs.Prelude.{◌≡◌, false, List, ℕ, ◌<◌, Option}
use Rattle.format.specs.declared.Part.{Part}
use Rattle.message.specs.View.{value_of, ValueIn}
use Rattle.delivery.specs.Memory.{capacity}
use Rattle.protocol.specs.State.{Host, Letter}
use Rattle.protocol.specs.Process.{long}
use Rattle.hosts.specs.declared.State.{State}
use Rattle.hosts.specs.declared.Done.{Done}
use Rattle.hosts.specs.Memory.{Memory}
use Rattle.hosts.specs.Limits.{waiting_for}
use Rattle.hosts.specs.Answers.{AfterRow}
use Rattle.referring.specs.Answers.{Picked}
use Rattle.storing.specs.Answers.{row}

-- the value stands in the datagram s, and unless it is too long there is a place for the answer
pub record Settable (m : Memory) (s : List ℕ) (v : Option Part) (h : Host) (l : Letter) : Type 0 where
  pub inside : ValueIn s v
  pub place : long (value_of s v) ≡ false → waiting_for h h.peers < capacity m.places

pub record AfterSet (m : Memory) (k : State) (s : List ℕ) (key : ℕ) (v : Option Part) (r : Done) (m' : Memory) : Type 0 where
  pub is : AfterRow m k (Settable m s v) (row m key (value_of s v)) r m'

-- the same for a value that is not too long, from a place and a number that were picked
pub record AfterSettle (m : Memory) (k : State) (s : List ℕ) (key : ℕ) (v : Option Part) (p x : ℕ) (r : Done) (m' : Memory) : Type 0 where
  pub is : AfterRow m k (λ h l. Picked m k p x h) (row m key (value_of s v)) r m'
