-- What the private function answers. A caller of the crate need not read this.
-- Assumes nothing.
use Rattle.std.specs.Prelude.{◌≡◌, false, List, ℕ, ◌-◌, ◌≤◌, ◌<◌, length}
use Rattle.limits.specs.Limits.{transfers_limit}
use Rattle.keys.specs.declared.Bound.{Bound}
use Rattle.format.specs.Format.{Entry, Above}
use Rattle.delegation.specs.Map.{room}
use Rattle.protocol.specs.Records.{replacing}
use Rattle.protocol.specs.Owners.{giving}
use Rattle.protocol.specs.State.{Host, Letter}
use Rattle.protocol.specs.Process.{on_delegate}
use Rattle.hosts.specs.declared.State.{State}
use Rattle.hosts.specs.declared.Done.{Done}
use Rattle.hosts.specs.Memory.{memory}
use Rattle.hosts.specs.Limits.{Bounded}
use Rattle.hosts.specs.Keeps.{Core}
use Rattle.hosts.specs.Answers.{Does}
use Rattle.delegates.specs.Answers.{Filled}

-- ---- the transfer taken

-- the columns are a list with rising keys, and there is room for what there will be
pub record Ready (lows owners slots s : List ℕ) (lo hi : Bound) (ks ats ls : List ℕ) (m : ℕ) (h : Host) (es : List Entry) : Type 0 where
  pub few : h.transfers < transfers_limit - 2
  pub count : length es ≡ m
  pub above : Above 0 es
  pub filled : Filled s es ks ats ls
  pub bounds : Bounded (room lows owners) h (giving lo hi h.me h.owners)
  pub entries : length (replacing lo hi es h.records) ≤ length slots

-- then the range is the host's, with exactly those entries
pub record AfterTake (lows owners keys slots lens values : List ℕ) (k : State) (s : List ℕ) (lo hi : Bound) (ks ats ls : List ℕ) (m : ℕ) (r : Done)
    (lows' owners' keys' slots' lens' values' : List ℕ) : Type 0 where
  pub freed : r.state.len ≡ 0
  pub is : (name_lens names counts places mail : List ℕ) (h : Host) (l : Letter) (es : List Entry)
      → Core (memory lows owners keys slots lens values name_lens names counts places mail) k h
      → Ready lows owners slots s lo hi ks ats ls m h es
      → Does (memory lows' owners' keys' slots' lens' values' name_lens names counts places mail) r.state r.outcome
      (on_delegate false h l lo hi es)
