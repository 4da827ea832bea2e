-- What setting a key of the host's own answers.
-- Assumes nothing.
use Rattle.std.specs.Prelude.{◌≡◌, true, false, List, ℕ, length}
use Rattle.std.proofs.Math.Option.{Option, none, some}
use Rattle.decoding.specs.Decode.{same}
use Rattle.protocol.specs.Owners.{owner_of}
use Rattle.protocol.specs.Records.{Value}
use Rattle.protocol.specs.State.{Host, Letter}
use Rattle.protocol.specs.Delivery.{Step}
use Rattle.protocol.specs.Process.{long, on_set}
use Rattle.hosts.specs.declared.State.{State}
use Rattle.hosts.specs.declared.Done.{Done}
use Rattle.hosts.specs.Memory.{Memory, memory}
use Rattle.hosts.specs.Limits.{fits_value}
use Rattle.hosts.specs.Answers.{AfterRow}
use Rattle.referring.specs.Answers.{Picked}

-- the row of the Set: the table has as many places as there are slots
abbrev pub row : Memory → ℕ → Option Value → Host → Letter → Step
row m key v h l = on_set (long v) (same (owner_of h.owners key) h.me) (fits_value (length m.slots) h key v) h l key v

-- the value is not too long, place p and the number x were picked for the answer, and the key is the host's own
pub record Mine (m : Memory) (k : State) (key p x : ℕ) (v : Option Value) (h : Host) (l : Letter) : Type 0 where
  pub short : long v ≡ false
  pub picked : Picked m k p x h
  pub own : same (owner_of h.owners key) h.me ≡ true

pub record AfterStore (m : Memory) (k : State) (key : ℕ) (v : Option Value) (p x : ℕ) (r : Done) (m' : Memory) : Type 0 where
  pub is : AfterRow m k (Mine m k key p x v) (row m key v) r m'

-- the key is taken out; a function that is not lent a slice leaves it alone
pub record AfterRemove (keys slots name_lens names counts places mail : List ℕ) (k : State) (key p x : ℕ) (r : Done)
    (keys' slots' counts' places' mail' : List ℕ) : Type 0 where
  pub is : (lows owners lens values : List ℕ)
      → AfterStore (memory lows owners keys slots lens values name_lens names counts places mail) k key none p x r
      (memory lows owners keys' slots' lens values name_lens names counts' places' mail')

-- the value is stored
pub record AfterPut (keys slots lens values name_lens names counts places mail : List ℕ) (k : State) (key : ℕ) (v : Value) (p x : ℕ) (r : Done)
    (keys' slots' lens' values' counts' places' mail' : List ℕ) : Type 0 where
  pub is : (lows owners : List ℕ)
      → AfterStore (memory lows owners keys slots lens values name_lens names counts places mail) k key (some v) p x r
      (memory lows owners keys' slots' lens' values' name_lens names counts' places' mail')
