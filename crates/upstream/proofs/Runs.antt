-- What the lemmas ask of a host is true of every host of every run, so every step of a run is one that upstream's `next` allows.
-- Assumes nothing.
use mathlib.Core.Path.{◌≡◌, sym, ap, ◌∙◌, subst}
use mathlib.Core.Bool.{Bool, true}
use mathlib.Core.List.{List, ◌∷◌}
use mathlib.Core.Option.{Option}
use Prim.Native.Nat.{ℕ}
use Rattle.message.specs.Message.{Address}
use Rattle.message.specs.Message.{message as messageOf}
use Rattle.message.specs.Table.{Valid}
use Rattle.protocol.specs.Address.{among}
use Rattle.protocol.specs.State.{Host, different, short}
use Rattle.protocol.specs.Process.{process}
use Rattle.protocol.specs.Retransmit.{retransmit}
use Rattle.protocol.specs.Turn.{turn}
use Rattle.world.specs.World.{begin}
use Rattle.world.specs.Events.{Event, run}
use Rattle.world.proofs.Invariant.{Local, Always}
use Rattle.world.proofs.Steps.{always_run}
use Rattle.world.proofs.Begin.{always_begins}
use Rattle.upstream.specs.Hosts.{AppRequest}
use Rattle.upstream.proofs.Processes.{Sane, Processed, process_implied}
use Rattle.upstream.proofs.Steps.{Peers, Turned, retransmit_implied, turn_implied}

module _ (first : Address) (others : List Address) (d : different (first ∷ others) ≡ true) (s : short (first ∷ others) ≡ true) (events : List Event) (x : Address)
    (isHost : among x (first ∷ others) ≡ true) where
  abbrev pub host : Host
  host = (run (begin first others) events).state x

  always : Always (first ∷ others) (run (begin first others) events)
  always = always_run d s (always_begins first others d) events

  here : Local (first ∷ others) (run (begin first others) events).executed x host
  here = always.core.local x isHost

  pub run_sane : Sane host
  run_sane = record {
    sorted = here.sorted;
    hosts_short = ap short here.hosts_are ∙ s;
    room_valid = λ l e. subst (λ (z : Address). Valid (messageOf l.number z l.body)) (sym here.me_is) (here.room_is l e).valid;
  }

  pub run_peers : Peers host
  run_peers = here.waits_known

  -- so of every host of every run, processing, sending again and a turn are upstream's next. (Receiving is of every host: `receive_implied`)
  pub run_process : (past : List AppRequest) (fits : Bool) → Processed past host (process fits host)
  run_process past fits = process_implied past host run_sane fits

  pub run_retransmit : (past : List AppRequest) → Processed past host (retransmit host)
  run_retransmit past = retransmit_implied past host run_peers

  pub run_turn : (past : List AppRequest) (roomy fits : Bool) (p : Option (Address × List ℕ)) → Turned past host p (turn roomy fits host p)
  run_turn past roomy fits p = turn_implied past host run_sane run_peers roomy fits p
