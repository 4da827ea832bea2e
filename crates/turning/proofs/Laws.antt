-- A turn is one of the three steps, and then the count of turns goes on.
-- Assumes nothing.
use mathlib.Core.Path.{◌≡◌, refl, sym, ap, ◌∙◌, subst}
use mathlib.Core.Bool.{Bool, true}
use mathlib.Core.List.{List}
use Prim.Native.Nat.{ℕ, ◌%◌, ◌<◌}
use native.Mathlib.Omega.{arith}
use native.Mathlib.Nat.{mod-lt}
use lib.ListN.{length}
use Rattle.message.specs.Message.{Address}
use Rattle.protocol.specs.Delivery.{Step}
use Rattle.protocol.specs.Turn.{kind, ended, by_kind}
use Rattle.hosts.specs.declared.State.{State}
use Rattle.hosts.specs.declared.Processed.{Processed}
use Rattle.hosts.specs.Memory.{Memory}
use Rattle.hosts.specs.Limits.{fits_room}
use Rattle.hosts.specs.declared.Done.{Done}
use Rattle.processing.specs.Answers.{Processes, AfterProcess}
use Rattle.rounds.specs.declared.Turned.TheVariants.{Did, Unfit}
use Rattle.rounds.specs.declared.Ended.{Ended}
use Rattle.rounds.specs.Answers.{Turns, over_of, AfterAgain}
use Rattle.rounds.proofs.Laws.{keeps_over, sends_over}
use Rattle.arriving.specs.Answers.{arriving, AfterArrive}
use Rattle.turning.specs.Answers.{Lent, AfterTurn}

module _ {m : Memory} {k : State} {room : List ℕ} {a : Address} {ack : List ℕ} where
  -- the message in the room was processed
  pub did : {r : Processed} {s : Step} → Processes m k room r s → (out : List ℕ) → Turns m (over_of k) room a ack out (Did r) (ended s)
  did {r} {s} R out = record { keeps = keeps_over m k room s.state R.keeps; outcome = R.outcome; sends = sends_over m k r ∙ R.sends }

-- ---- the turn

module _ {m : Memory} {k : State} {room : List ℕ} {arrived : Bool} {a : Address} {s ack out : List ℕ} where
  -- too little was lent beside the host's memory
  pub not_lent : {r : Ended} → (Lent m ack out → ⊥) → r ≡ record { state = k; outcome = Unfit; place = 0 } → AfterTurn m k room arrived a s ack out r m room ack out
  not_lent n q = record { is = λ h K L. absurd (n L); fit = λ L. absurd (n L); refused = λ f. (ap (λ (d : Ended). d.outcome) q, ap (λ (d : Ended). d.state) q, refl, refl, refl, refl) }

  module _ (L : Lent m ack out) where
    pub receives : {m' : Memory} {room' ack' : List ℕ} {r : Ended} → k.turns % 3 ≡ 0 → AfterArrive m k room arrived a s ack r m' room' ack' → AfterTurn m k room arrived a s ack out r m' room' ack' out
    receives {m'} {room'} {ack'} {r} e A = record {
      is = λ h K l.
          let R = A.is h K L.ack_fits out in
          let z : kind h ≡ 0 = ap (λ (t : ℕ). t % 3) (sym K.core.turns_is) ∙ e in (
            R.0,
            (λ q w. R.1 w),
            subst (λ (n : ℕ). Turns m' r.state room' a ack' out r.outcome (ended (by_kind n R.0 (fits_room (length m.slots) h h.room) h (arriving arrived a s)))) (sym z) R.2,
          );
      fit = λ l. A.fit L.ack_fits;
      refused = λ n. absurd (n L);
    }

    pub processes : {m' : Memory} {d : Done} {f : State} {r : Ended} → k.turns % 3 ≡ 1 → AfterProcess m k room d m' → f ≡ over_of d.state → r ≡ record { state = f; outcome = Did d.outcome; place = 0 }
        → AfterTurn m k room arrived a s ack out r m' room ack out
    processes {m'} {d} {f} {r} e A q w = subst (λ (t : Ended). AfterTurn m k room arrived a s ack out t m' room ack out)
        (ap (λ (g : State). record { state = g; outcome = Did d.outcome; place = 0 }) (sym q) ∙ sym w)
        (record {
          is = λ h K l.
              let z : kind h ≡ 1 = ap (λ (t : ℕ). t % 3) (sym K.core.turns_is) ∙ e in (
                true,
                (λ u. absurd (one_not_zero (sym z ∙ u))),
                subst (λ (n : ℕ). Turns m' (over_of d.state) room a ack out (Did d.outcome) (ended (by_kind n true (fits_room (length m.slots) h h.room) h (arriving arrived a s)))) (sym z)
                    (did (A.is h K) out),
              );
          fit = λ l. refl;
          refused = λ n. absurd (n L);
        })
      where
        one_not_zero : ◌≡◌ {A = ℕ} 1 0 → ⊥
        one_not_zero u = omega (arith, u)

    pub repeats : {out' : List ℕ} {r : Ended} → (k.turns % 3 ≡ 0 → ⊥) → (k.turns % 3 ≡ 1 → ⊥) → AfterAgain m.counts m.places k out r out'
        → AfterTurn m k room arrived a s ack out r m room ack out'
    repeats {out'} {r} n0 n1 A = record {
      is = λ h K l.
          let z : kind h ≡ 2 = ap (λ (t : ℕ). t % 3) (sym K.core.turns_is) ∙ two (k.turns % 3) n0 n1 (mod-lt k.turns (omega arith)) in (
            true,
            (λ u. absurd (two_not_zero (sym z ∙ u))),
            subst (λ (n : ℕ). Turns m r.state room a ack out' r.outcome (ended (by_kind n true (fits_room (length m.slots) h h.room) h (arriving arrived a s)))) (sym z)
                (A.is m.lows m.owners m.keys m.slots m.lens m.values m.name_lens m.names m.mail room h K L.out_fits a ack),
          );
      fit = λ l. A.fit L.out_fits;
      refused = λ n. absurd (n L);
    }
      where
        two_not_zero : ◌≡◌ {A = ℕ} 2 0 → ⊥
        two_not_zero u = omega (arith, u)

        two : (n : ℕ) → (n ≡ 0 → ⊥) → (n ≡ 1 → ⊥) → n < 3 → n ≡ 2
        two n a b c = omega (arith, a, b, c)
