-- What reading the peers' names and numbers says of the host that memory keeps.
-- Assumes nothing.
use mathlib.Core.Path.{sym, ◌∙◌}
use mathlib.Core.Bool.{Bool, false, false≢true}
use mathlib.Core.List.{List}
use Prim.Native.Nat.{ℕ, ◌-◌, ◌<◌}
use native.Mathlib.Omega.{arith}
use Rattle.memory.specs.Bytes.{part, Same}
use Rattle.message.specs.Message.{Address}
use Rattle.std.specs.Prelude.{Some, None}
use Rattle.peers.specs.Names.{AfterFind, AfterName}
use Rattle.delivery.specs.declared.Counts.{Counts}
use Rattle.delivery.specs.Answers.{Counted}
use Rattle.protocol.specs.State.{Host}
use Rattle.hosts.specs.declared.State.{State}
use Rattle.hosts.specs.Memory.{Memory, memory}
use Rattle.hosts.specs.Keeps.{Core}
use Rattle.hosts.proofs.Arrivals.{received_as}
use Rattle.hearing.specs.Answers.{Last, Own}

-- the host is one of its peers
own_in : (m : Memory) (k : State) (h : Host) → Core m k h → k.me < k.peers
own_in m k h C = omega (arith, C.says.own, C.says.few)

module _ {lens names : List ℕ} {k : State} {a : Address} where
  -- ---- the number of the last message from an address

  pub last_known : {counts : List ℕ} {i : ℕ} {r : Counts} → AfterFind lens names k.width k.peers a (Some i) → Counted counts i r
      → Last lens names counts k a r.received
  last_known {counts} {i} F G = record {
    is = λ lows owners keys slots ls values places mail h C.
        let p = F.is C.N C.names_kept in
        received_as (memory lows owners keys slots ls values lens names counts places mail) k h C i p.0 a p.1 G;
  }

  pub last_unknown : {counts : List ℕ} → AfterFind lens names k.width k.peers a None → Last lens names counts k a 0
  last_unknown F = record {
    is = λ lows owners keys slots ls values places mail h C. sym (C.says.strange_received a (F.is C.N C.names_kept));
  }

  -- ---- the own address

  pub nameless : AfterName lens names k.width k.me None → Own lens names k a false
  nameless A = record {
    yes = λ e. absurd (false≢true e);
    other = λ e lows owners keys slots ls values counts places mail h C q. A.is k.peers C.N C.names_kept (own_in _ k h C);
  }

  pub compared : {from to : ℕ} {r : Bool} → AfterName lens names k.width k.me (Some (from, to)) → Same (part names from (to - from)) a r
      → Own lens names k a r
  compared A S = record {
    yes = λ e lows owners keys slots ls values counts places mail h C.
        sym (S.yes e) ∙ A.is.2 k.peers C.N C.names_kept (own_in _ k h C) ∙ C.says.me_is;
    other = λ e lows owners keys slots ls values counts places mail h C q.
        S.no e (A.is.2 k.peers C.N C.names_kept (own_in _ k h C) ∙ C.says.me_is ∙ sym q);
  }
