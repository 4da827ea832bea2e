-- What the private function answers. A caller of the crate need not read this.
-- Assumes nothing.
use Rattle.std.specs.Prelude.{◌≡◌, Bool, true, false, ◌≤◌, ◌<◌}
use Rattle.hosts.specs.declared.State.{State}
use Rattle.hosts.specs.Keeps.{Sized}

-- every message that a host sends fits a datagram, the hosts are among the peers, and the own number is a host's
pub record Agree (k : State) : Type 0 where
  pub sized : Sized k.width k.size
  pub few : k.hosts ≤ k.peers
  pub own : k.me < k.hosts

-- r says whether that is so
pub record Agreeing (k : State) (r : Bool) : Type 0 where
  pub yes : r ≡ true → Agree k
  pub no : r ≡ false → Agree k → ⊥
