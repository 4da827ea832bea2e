-- The answers before a datagram is looked at, and to what is no message.
-- Assumes nothing.
use mathlib.Core.Path.{◌≡◌, refl, sym, ap, ◌∙◌, subst}
use mathlib.Core.Bool.{Bool, true, false, false≢true}
use mathlib.Core.List.{List}
use Rattle.std.specs.Prelude.{Some, None}
use mathlib.Core.Option.{Option, none, some, none-ne-some}
use Prim.Native.Nat.{ℕ, ◌≤◌, ◌<◌}
use native.Mathlib.Omega.{arith}
use lib.ListN.{length}
use Rattle.message.specs.Message.{Address, Body, Datagram, message, ack}
use Rattle.message.specs.Answers.{AfterParse}
use Rattle.message.specs.declared.Parsed.TheVariants.{Ack as AckOf}
use Rattle.decoding.specs.Decode.{read}
use Rattle.decoding.proofs.Laws.{parse_reads}
use Rattle.protocol.specs.State.{Host, Letter}
use Rattle.protocol.specs.Delivery.{Step, confirmed}
use Rattle.protocol.specs.Receive.{on_ack, on_room, receive}
use Rattle.hosts.specs.declared.State.{State}
use Rattle.hosts.specs.Memory.{Memory, memory}
use Rattle.hosts.specs.Limits.{Limits}
use Rattle.hosts.specs.Keeps.{limits_of, RoomCases, Keeps}
use Rattle.acknowledging.specs.Answers.{AfterAck}
use Rattle.incoming.specs.declared.Received.TheVariants.{Full, Invalid, Arrived, Stale, Unfit}
use Rattle.incoming.specs.declared.Arrival.{Arrival}
use Rattle.incoming.specs.Answers.{ack_length, Tested, Receives}
use Rattle.incoming.specs.Handled.{leaving, Handled}
use Rattle.incoming.proofs.Laws.{not_unfit, room_free, stays, step_read}
use Rattle.receiving.specs.Answers.{AfterReceive}
use Rattle.receiving.specs.Inner.{ack_outcome_of}

-- ---- what was said of an answer holds of one that is equal to it

pub received_as : {m : Memory} {k : State} {room : List ℕ} {a : Address} {s ack : List ℕ} {r t : Arrival} {m' : Memory} {room' ack' : List ℕ} → t ≡ r
    → AfterReceive m k room a s ack r m' room' ack' → AfterReceive m k room a s ack t m' room' ack'
received_as e A = rw e A

-- ---- the room

module _ {m : Memory} {k : State} {room : List ℕ} {h : Host} (K : Keeps m k room h) where
  free_room : k.len ≡ 0 → h.room ≡ none
  free_room z = go h.room K.room_is
    where
      go : (o : Option Letter) → RoomCases m k room h o → o ≡ none
      go none c = refl
      go (some l) c = absurd (omega (arith, c.0, z))

  taken_room : (k.len ≡ 0 → ⊥) → (l : Letter) × (h.room ≡ some l)
  taken_room z = go h.room refl
    where
      go : (o : Option Letter) → h.room ≡ o → (l : Letter) × (h.room ≡ some l)
      go none e = absurd (z (room_free K e))
      go (some l) e = (l, e)

-- ---- before the datagram is looked at

module _ {m : Memory} {k : State} {room : List ℕ} {a : Address} {s ack : List ℕ} where
  pub unfit : length ack < ack_length → AfterReceive m k room a s ack (leaving k Unfit) m room ack
  unfit l = record { is = λ h K q. absurd (omega arith); same = λ e. (refl, refl, refl); unfit = λ q. refl; fit = λ q e. absurd (omega arith) }

  module _ (fits : ack_length ≤ length ack) where
    pub full : (k.len ≡ 0 → ⊥) → AfterReceive m k room a s ack (leaving k Full) m room ack
    full z = record {
      is = λ h K q.
          let w = taken_room K z in (
            false,
            λ n b f. absurd (none-ne-some w.0 (sym f ∙ w.1)),
            stays a ack K Full refl (receive false h a s) (rw w.1 refl),
          );
      same = λ e. (refl, refl, refl);
      unfit = λ q. absurd (omega arith);
      fit = λ q e. not_unfit Full tt e;
    }

    pub handled : {known : Host → Type 0} {r : Arrival} {m' : Memory} {room' ack' : List ℕ} → ((h : Host) → known h) → k.len ≡ 0
        → Handled known m k room a s ack r m' room' ack' → AfterReceive m k room a s ack r m' room' ack'
    handled all z H = record {
      is = λ h K q. H.is h (all h) K (free_room K z) q;
      same = H.same;
      unfit = λ q. absurd (omega arith);
      fit = λ q. H.fit;
    }

-- ---- no message, and an Ack

not_both : {n x : ℕ} {c : Address} {b : Body} → ◌≡◌ {A = Option Datagram} (some (ack n)) (some (message x c b)) → ⊥
not_both e = cc

pub invalid : {m : Memory} {k : State} {room : List ℕ} {a : Address} {s ack : List ℕ} → AfterParse s None
    → Handled (λ h. Unit) m k room a s ack (leaving k Invalid) m room ack
invalid {m} {k} {room} {a} {s} {ack} A = record {
  is = λ h u K e q.
      let r = parse_reads s None A in
      (false, λ n b f g. absurd (none-ne-some (message n h.me b) (sym r ∙ g)), stays a ack K Invalid refl (receive false h a s) (step_read h a s e false none r));
  same = λ e. (refl, refl, refl);
  fit = not_unfit Invalid tt;
}

module _ {lows owners keys slots name_lens names counts places : List ℕ} {k : State} {room : List ℕ} {a : Address} {s d : List ℕ} {n : ℕ}
    (A : AfterParse s (Some (AckOf n))) where
  -- what waits up to its number is gone, or it says nothing new and nothing has changed
  pub ack_handled : (c : Bool) {counts' places' : List ℕ} → AfterAck name_lens names counts places k a n c counts' places' → (lens values mail : List ℕ)
      → Handled (λ h. Unit) (memory lows owners keys slots lens values name_lens names counts places mail) k room a s d (leaving k (ack_outcome_of c))
      (memory lows owners keys slots lens values name_lens names counts' places' mail) room d
  ack_handled true Y lens values mail = record {
    is = λ h u K e q.
        let r = parse_reads s (Some (AckOf n)) A in
        let y = Y.counts_is lows owners keys slots lens values mail h K.core in (
          false,
          λ x b f g. absurd (not_both (sym r ∙ g)),
          rw (step_read h a s e false (some (ack n)) r, ← y)
              (record { keeps = record { core = Y.arrived refl lows owners keys slots lens values mail h K.core; room_is = rw e (room_free K e) }; outcome = refl; sends = refl }),
        );
    same = λ e. absurd (false≢true e);
    fit = not_unfit Arrived tt;
  }
  ack_handled false Y lens values mail = record {
    is = λ h u K e q.
        let r = parse_reads s (Some (AckOf n)) A in
        let y = Y.counts_is lows owners keys slots lens values mail h K.core in (
          false,
          λ x b f g. absurd (not_both (sym r ∙ g)),
          rw ((Y.stale refl).0, (Y.stale refl).1) (stays a d K Stale refl (receive false h a s) (step_read h a s e false (some (ack n)) r ∙ rw (← y) refl)),
        );
    same = λ e. (rw ((Y.stale refl).0, (Y.stale refl).1) refl, refl, refl);
    fit = not_unfit Stale tt;
  }
