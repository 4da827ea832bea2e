-- What giving a range away answers.
-- Assumes nothing.
use Rattle.std.specs.Prelude.{◌≡◌, List, ℕ, suc, ◌≤◌, ◌<◌}
use Rattle.limits.specs.Limits.{numbers}
use Rattle.keys.specs.declared.Bound.{Bound}
use Rattle.records.specs.Table.{Table, removed}
use Rattle.records.specs.Memory.{Keeps as KeepsTable}
use Rattle.delegation.specs.Map.{Keeps as KeepsMap, Takes, updated, room}
use Rattle.hosts.specs.declared.State.{State}
use Rattle.hosts.specs.declared.Done.{Done}
use Rattle.hosts.specs.declared.Processed.TheVariants.{Handed}
use Rattle.hosts.specs.Answers.{moved}

-- the map and the table after it, and the answer
pub record Given (keys' slots' lens values lows' owners' : List ℕ) (k : State) (lo hi : Bound) (i p : ℕ) (r : Done) (f : ℕ → ℕ) (T : Table)
    : Type 0 where
  pub bounds : ℕ
  pub entries : ℕ
  pub answer : r ≡ record { state = moved k bounds entries; outcome = Handed p }
  pub map_kept : KeepsMap lows' owners' bounds (updated lo hi i f)
  pub table_kept : KeepsTable keys' slots' lens values entries (removed lo hi T)

pub record AfterGive (lows owners keys slots : List ℕ) (k : State) (lo hi : Bound) (i p : ℕ) (r : Done) (lows' owners' keys' slots' : List ℕ)
    : Type 0 where
  pub freed : r.state.len ≡ 0
  pub is : (lens values : List ℕ) (f : ℕ → ℕ) (T : Table) → KeepsMap lows owners k.bounds f → KeepsTable keys slots lens values k.entries T
      → suc k.transfers < numbers → ((b : ℕ) → Takes (updated lo hi i f) b → b ≤ room lows owners)
      → Given keys' slots' lens values lows' owners' k lo hi i p r f T
