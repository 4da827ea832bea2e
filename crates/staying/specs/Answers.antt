-- What is answered of a message that stays.
-- Assumes nothing.
use Rattle.std.specs.Prelude.{◌≡◌, Bool, true, false, ◌-◌, ◌≤◌, ◌<◌}
use Rattle.limits.specs.Limits.{transfers_limit}
use Rattle.hosts.specs.declared.State.{State}
use Rattle.hosts.specs.declared.Done.{Done}
use Rattle.hosts.specs.declared.Processed.{Processed}

-- nothing is done
abbrev pub unchanged : State → Processed → Done
unchanged k o = record { state = k; outcome = o }

-- r says whether the count of transfers is at its limit
pub record Many (k : State) (r : Bool) : Type 0 where
  pub yes : r ≡ true → transfers_limit - 2 ≤ k.transfers
  pub no : r ≡ false → k.transfers < transfers_limit - 2
