-- What taking a transfer answers.
-- Assumes nothing.
use Rattle.std.specs.Prelude.{◌≡◌, true, false, List, ℕ, ◌-◌, ◌≤◌, length, ltb}
use Rattle.limits.specs.Limits.{transfers_limit}
use Rattle.keys.specs.declared.Bound.{Bound}
use Rattle.format.specs.Place.{listed}
use Rattle.message.specs.declared.ListView.{ListView}
use Rattle.message.specs.declared.BodyView.TheVariants.{Delegate}
use Rattle.message.specs.View.{BodyIn}
use Rattle.delegation.specs.Map.{room}
use Rattle.protocol.specs.Records.{replacing}
use Rattle.protocol.specs.Owners.{giving}
use Rattle.protocol.specs.State.{Host, Letter}
use Rattle.protocol.specs.Delivery.{Step}
use Rattle.protocol.specs.Process.{unfit, on_delegate}
use Rattle.hosts.specs.declared.State.{State}
use Rattle.hosts.specs.declared.Done.{Done}
use Rattle.hosts.specs.Memory.{memory}
use Rattle.hosts.specs.Limits.{Bounded}
use Rattle.hosts.specs.Answers.{AfterRow}

-- the list stands in the datagram s, and if the transfer is to be taken, the map and the table have room for what there will be
pub record Takeable (lows owners slots s : List ℕ) (lo hi : Bound) (list : ListView) (h : Host) (l : Letter) : Type 0 where
  -- the count of transfers is below its limit
  pub few : ltb h.transfers (transfers_limit - 2) ≡ true
  pub inside : BodyIn s (Delegate lo hi list)
  pub bounds : unfit h l lo hi (listed s list.at list.count) ≡ false → Bounded (room lows owners) h (giving lo hi h.me h.owners)
  pub entries : unfit h l lo hi (listed s list.at list.count) ≡ false
      → length (replacing lo hi (listed s list.at list.count) h.records) ≤ length slots

-- the row of the Delegate
abbrev pub row : List ℕ → Bound → Bound → ListView → Host → Letter → Step
row s lo hi list h l =
    on_delegate (unfit h l lo hi (listed s list.at list.count)) h l lo hi (listed s list.at list.count)

pub record AfterDelegate (lows owners keys slots lens values : List ℕ) (k : State) (s : List ℕ) (lo hi : Bound) (list : ListView) (r : Done)
    (lows' owners' keys' slots' lens' values' : List ℕ) : Type 0 where
  pub is : (name_lens names counts places mail : List ℕ)
      → AfterRow (memory lows owners keys slots lens values name_lens names counts places mail) k (Takeable lows owners slots s lo hi list)
      (row s lo hi list)
      r
      (memory lows' owners' keys' slots' lens' values' name_lens names counts places mail)
