-- Hosts in lent memory follow a run of the world, so what holds of every run holds of them.
-- Assumes nothing.
use Rattle.std.specs.Prelude.{◌≡◌, true, List, [], ◌∷◌, ℕ}
use Rattle.std.proofs.Math.Option.{some}
use Rattle.message.specs.Message.{Address}
use Rattle.protocol.specs.Address.{among}
use Rattle.protocol.specs.State.{Host, start}
use Rattle.hosts.specs.Keeps.{Keeps}
use Rattle.world.specs.World.{World, begin}
use Rattle.world.specs.Events.{Event, run}
use Rattle.world.specs.Theorem.{Holds}
use Rattle.homes.specs.Homes.{Home, Homes, Path}

-- a home keeps a host
abbrev pub Kept : Home → Host → Type 0
Kept g h = Keeps g.memory g.numbers g.room h

-- every host was started with the list, as `starting::start` promises, and nothing was handed out
pub record Started (hosts : List Address) (R : Homes) : Type 0 where
  pub each : (x : Address) → among x hosts ≡ true → (h : Host) × (start hosts x ≡ some h) × Kept (R.home x) h
  pub nothing_sent : R.sent ≡ []

-- every home keeps the world's host, and the same was handed out
pub record Follows (hosts : List Address) (R : Homes) (W : World) : Type 0 where
  pub hosts_are : W.hosts ≡ hosts
  pub keeps : (x : Address) → among x hosts ≡ true → Kept (R.home x) (W.state x)
  pub sent_is : R.sent ≡ W.sent

-- Whatever calls are made, there are events such that the homes are at what the events lead to; and there, all of `world`'s theorem holds
abbrev pub Theorem : Type 0
Theorem =
    (first : Address) (others : List Address) (R Q : Homes) → Started (first ∷ others) R → (n : ℕ) → Path (first ∷ others) n R Q
    → (events : List Event) × Follows (first ∷ others) Q (run (begin first others) events) × Holds (run (begin first others) events)
