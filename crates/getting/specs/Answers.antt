-- What answering a Get answers.
-- Assumes nothing.
use Rattle.std.specs.Prelude.{Bool, List, ℕ, ◌<◌}
use Rattle.message.specs.Message.{reply}
use Rattle.records.specs.Table.{Table}
use Rattle.records.specs.Memory.{Keeps as KeepsTable}
use Rattle.delivery.specs.Memory.{capacity}
use Rattle.decoding.specs.Decode.{same}
use Rattle.sending.specs.Answers.{AfterSend}
use Rattle.protocol.specs.Owners.{owner_of}
use Rattle.protocol.specs.State.{Host, Letter}
use Rattle.protocol.specs.Delivery.{Step}
use Rattle.protocol.specs.Process.{on_get}
use Rattle.hosts.specs.declared.State.{State}
use Rattle.hosts.specs.declared.Done.{Done}
use Rattle.hosts.specs.Memory.{Memory}
use Rattle.hosts.specs.Limits.{waiting_for}
use Rattle.hosts.specs.Answers.{AfterRow}
use Rattle.referring.specs.Answers.{Picked}

-- a place for the answer
abbrev pub Place : Memory → Host → Letter → Type 0
Place m h l = waiting_for h h.peers < capacity m.places

-- the row of the Get
abbrev pub row : ℕ → Host → Letter → Step
row key h l = on_get (same (owner_of h.owners key) h.me) h l key

pub record AfterGet (m : Memory) (k : State) (key : ℕ) (r : Done) (m' : Memory) : Type 0 where
  pub is : AfterRow m k (Place m) (row key) r m'

-- the same from a place and a number that were picked
pub record AfterRespond (m : Memory) (k : State) (key p x : ℕ) (r : Done) (m' : Memory) : Type 0 where
  pub is : AfterRow m k (λ h l. Picked m k p x h) (row key) r m'

-- the Reply with what the table has for the key is sent
pub record AfterValue (keys slots lens values : List ℕ) (entries : ℕ) (name_lens names : List ℕ) (width : ℕ) (counts places mail : List ℕ)
    (size peer p x key : ℕ) (r : Bool) (counts' places' mail' : List ℕ) : Type 0 where
  pub is : (T : Table) → KeepsTable keys slots lens values entries T
      → AfterSend name_lens names width counts places mail size peer p x (λ n. Unit) (λ N. reply key (T key)) r counts' places' mail'
