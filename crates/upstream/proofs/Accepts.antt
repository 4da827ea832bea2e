-- What upstream's relations accept and should not. Beside each: what refuses it here.
-- Assumes nothing.
use mathlib.Core.Path.{◌≡◌, refl, sym, subst}
use mathlib.Core.List.{List, [], ◌∷◌}
use mathlib.Core.Logic.{inl, inr, ⊎_elim}
use mathlib.Core.Option.{Option, none, some}
use Prim.Native.Nat.{ℕ, ◌<◌}
use native.Mathlib.Omega.{arith}
use Rattle.message.specs.Message.{Address}
use Rattle.world.specs.Single.{Among}
use Rattle.upstream.specs.Messages.{Hashtable, get_request, message, ack, Packet}
use Rattle.upstream.specs.Delivery.{insert, ack_of, truncate, SingleDelivery, ReceiveAck}
use Rattle.upstream.specs.Hosts.{AppRequest, State, Map, Complete, freed, receives, sent, ProcessRoom, Next, NextGet, receive_packet, process_packet, stutter}

-- Receiving may change anything. On an Ack that says nothing new the host may take another map, another table, another count and another list of
-- requests: the line "nothing else changes" compares the new state with itself. (Here `protocol.receive` is a function, and where the host stays as it
-- was all memory does: `receiving.AfterReceive`. `crates/protocol/must-fail/ack_empties_the_records.edit` is refused)
pub anything_changes : (pre : State) → pre.received ≡ none → Complete pre → (map : Map) (table : Hashtable) (count : ℕ) (requests : List AppRequest) (a : Address)
    → Next pre (record {
      constants = pre.constants;
      delegation = map;
      table = table;
      sd = pre.sd;
      received = none;
      delegations = count;
      requests = requests;
    }) (receives (record { dst = pre.constants.me; src = a; msg = ack 0 }) ∷ [])
anything_changes pre free complete map table count requests a = record {
  complete = complete;
  constants = refl;
  step = receive_packet;
  is = (
    complete,
    tt,
    (
      record { dst = a; src = a; msg = ack 0 },
      inl (record {
        free = free;
        delivery = record { none_sent = λ p w. w; more = λ w. absurd (omega (arith, w)); stale = λ w. refl };
        new = λ w. absurd w;
        old = λ w. refl;
        else = refl;
      }),
    ),
  );
  sound = λ p w e. w;
}

-- An Ack that says something new may change what was received, to anything; then old messages are new again. (Here `protocol.confirmed` keeps it;
-- `crates/world/must-fail/ack_frees_the_received.edit` is refused)
pub ack_frees : (pre : SingleDelivery) (src : Address) (n : ℕ) → (ack_of (pre.sends src)).acked < n → (received : Address → Option ℕ)
    → ReceiveAck pre (record {
      received = received;
      sends = insert src (record { acked = n; unacked = truncate (ack_of (pre.sends src)).unacked n }) pre.sends;
    }) src n (λ p. ⊥)
ack_frees pre src n more received = record { none_sent = λ p w. w; more = λ w. refl; stale = λ w. absurd (w more) }

-- A Get may be dropped, always. (Here `protocol.on_get` drops none that has a number for its answer; `crates/getting/must-fail` has a body that drops
-- them)
pub get_dropped : (pre : State) (src dst me : Address) (n k : ℕ) → pre.received ≡ some (record { dst = me; src = src; msg = message n dst (get_request k) })
    → Complete pre → Next pre (freed pre) []
get_dropped pre src dst me n k there complete = record {
  complete = complete;
  constants = refl;
  step = process_packet;
  is = (
    complete,
    tt,
    subst (λ (o : Option Packet). ProcessRoom o pre (freed pre) (sent [])) (sym there)
        ((λ w. ((refl, refl, refl, inr (refl, λ p q. q)), refl)), λ w. absurd (w tt)),
  );
  sound = λ p w e. w;
}

-- A host may do nothing, for ever. (Here `protocol.turn` says what a turn does; `crates/turning/must-fail` has turns that do something else)
pub stutters : (pre : State) → Complete pre → Next pre pre []
stutters pre complete = record { complete = complete; constants = refl; step = stutter; is = (refl, refl); sound = λ p w e. w }

-- Sends are a set, so a Reply may be sent twice in one step, or a thousand times. (Here a step's datagrams are a list: `protocol.Step`)
pub sent_twice : (pre post : State) (src : Address) (n k : ℕ) (q : Packet) → NextGet pre post src n k (λ p. Among p (q ∷ []))
    → NextGet pre post src n k (λ p. Among p (q ∷ q ∷ []))
sent_twice pre post src n k q G = (
  G.0,
  G.1,
  G.2,
  ⊎_elim
      (λ r. inl (record {
        sm = r.sm;
        m = r.m;
        n = r.n;
        b = r.b;
        mine = r.mine;
        other = r.other;
        answers = record {
          delivery = r.answers.delivery;
          to = r.answers.to;
          only = λ p. (
            (λ o. ⊎_elim (λ e. (r.answers.only p).0 (inl e)) (λ w. (r.answers.only p).0 w) o),
            (λ e. ⊎_elim (λ w. inl w) (λ w. absurd w) ((r.answers.only p).1 e)),
          );
        };
      }))
      (λ r. inr (r.0, λ p o. ⊎_elim (λ e. r.1 p (inl e)) (λ w. r.1 p w) o))
      G.3,
)
