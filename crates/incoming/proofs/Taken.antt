-- The answers to a message that would be taken: there is no room for it and it is not acknowledged, or it is taken and acknowledged.
-- Assumes nothing.
use mathlib.Core.Path.{◌≡◌, refl, sym, ap, ◌∙◌, subst}
use mathlib.Core.Bool.{Bool, true, false, true≢false, false≢true}
use mathlib.Core.List.{List, [], ◌∷◌}
use Rattle.std.specs.Prelude.{Result, Ok, Err}
use mathlib.Core.Option.{Option as Maybe, none, some}
use Prim.Native.Nat.{ℕ, suc}
use lib.ListN.{length}
use lib.Dec.{leb}
use borrow.Author.Tests.{eq-eqb}
use Rattle.message.specs.Message.{Address, Body, get, Datagram, message, ack}
use Rattle.message.specs.View.{body_of}
use Rattle.message.specs.Answers.{AfterWrite}
use Rattle.message.specs.declared.BodyView.{BodyView}
use Rattle.message.specs.declared.Refused.{Refused}
use Rattle.decoding.proofs.Laws.{read_some}
use Rattle.protocol.specs.State.{Host, Letter}
use Rattle.protocol.specs.Delivery.{Step}
use Rattle.protocol.specs.Receive.{on_number, receive}
use Rattle.hosts.specs.declared.State.{State}
use Rattle.hosts.specs.Memory.{memory}
use Rattle.hosts.specs.Limits.{Needs}
use Rattle.hosts.specs.Keeps.{limits_of}
use Rattle.rooms.specs.Answers.{Tested as RoomTested}
use Rattle.limits.specs.declared.NoRoom.{NoRoom}
use Rattle.taking.specs.Answers.{AfterTake}
use Rattle.incoming.specs.declared.Received.TheVariants.{Taken, Unreceived}
use Rattle.incoming.specs.Answers.{Receives}
use Rattle.incoming.specs.Handled.{leaving, Handled, Next}
use Rattle.incoming.proofs.Room.{keeps_letter, was_roomy}
use Rattle.incoming.proofs.Laws.{not_unfit, ack_written, stays, step_number}

-- the body of a message; of anything else, any
abbrev body_in : Maybe Datagram → Body
body_in none = get 0
body_in (some (message n to b)) = b
body_in (some (ack n)) = get 0

-- the definition's step
step_is : {a : Address} {s : List ℕ} {n : ℕ} {b : BodyView} (roomy : Bool) (h : Host) → Next a s n b h → h.room ≡ none
    → receive roomy h a s ≡ on_number true (leb n (h.received a)) roomy h a n (body_of s b)
step_is {a} {s} {n} {b} roomy h X e =
    step_number h a s e roomy n (body_of s b) X.is true (leb n (h.received a)) (eq-eqb n (suc (h.received a)) X.next) refl

module _ {lows owners keys slots name_lens names counts places : List ℕ} {k : State} {room : List ℕ} {a : Address} {s d : List ℕ} {n : ℕ} {b : BodyView} where
  -- ---- there is no room

  pub unroomy : RoomTested lows owners keys slots name_lens names places k a s b false → (lens values mail : List ℕ)
      → Handled (Next a s n b) (memory lows owners keys slots lens values name_lens names counts places mail) k room a s d (leaving k Unreceived)
      (memory lows owners keys slots lens values name_lens names counts places mail)
      room
      d
  unroomy T lens values mail =
      let m = memory lows owners keys slots lens values name_lens names counts places mail in
      record {
        is = λ h X K e q. (
          false,
          λ x c z g y. (
            λ o. absurd (false≢true o),
            λ o R.
                let l : Letter = record { from = a; number = x; body = c } in
                T.lacks refl lens values counts mail room h l K.core refl X.body_in
                (subst (λ (v : Body). Needs (limits_of m k room) h l v) (sym (ap body_in (sym X.is ∙ g))) R.needs),
          ),
          stays a d K Unreceived refl (receive false h a s) (step_is false h X e),
        );
        same = λ e. (refl, refl, refl);
        fit = not_unfit Unreceived tt;
      }

  pub no_room : {x : NoRoom} {nameLens' names' counts' room' : List ℕ} → AfterTake name_lens names counts room k a n s (Err x) nameLens' names' counts' room'
      → (lens values mail : List ℕ)
      → Handled (Next a s n b) (memory lows owners keys slots lens values name_lens names counts places mail) k room a s d (leaving k Unreceived)
      (memory lows owners keys slots lens values nameLens' names' counts' places mail)
      room'
      d
  no_room Z lens values mail = record {
    is = λ h X K e q. (
      false,
      λ x c z g y.
          (λ o. absurd (false≢true o), λ o R. Z.is.4 lows owners keys slots lens values places mail h K.core R.bytes R.sender),
      rw (Z.is.0, Z.is.1, Z.is.2, Z.is.3) (stays a d K Unreceived refl (receive false h a s) (step_is false h X e)),
    );
    same = λ e. (rw (Z.is.0, Z.is.1, Z.is.2) refl, refl, Z.is.3);
    fit = not_unfit Unreceived tt;
  }

  -- ---- it is taken

  pub taken : RoomTested lows owners keys slots name_lens names places k a s b true
      → {nameLens' names' counts' room' d' : List ℕ} {k' : State} {w : Result ℕ Refused} {p : ℕ}
      → AfterTake name_lens names counts room k a n s (Ok k') nameLens' names' counts' room' → AfterWrite (ack n) d w d'
      → length nameLens' ≡ length name_lens → length names' ≡ length names → length counts' ≡ length counts → length room' ≡ length room
      → (lens values mail : List ℕ)
      → Handled (Next a s n b) (memory lows owners keys slots lens values name_lens names counts places mail) k room a s d
      (record { state = k'; outcome = Taken; place = p })
      (memory lows owners keys slots lens values nameLens' names' counts' places mail)
      room'
      d'
  taken T {nameLens'} {names'} {counts'} {room'} {d'} {k'} {w} Z W p1 p2 p3 p4 lens values mail =
      let m = memory lows owners keys slots lens values name_lens names counts places mail in
      let m' = memory lows owners keys slots lens values nameLens' names' counts' places mail in
      record {
        is = λ h X K e q.
            let t = Z.is lows owners keys slots lens values places mail h K.core in
            let c' = body_of s b in
            let N : (x : ℕ) (c : Body) → c' ≡ c → Needs (limits_of m k room) h (record { from = a; number = x; body = c }) c =
            λ x c v.
            subst (λ (u : Body). Needs (limits_of m k room) h (record { from = a; number = x; body = c }) u) v
            (T.roomy refl lens values counts mail room h (record { from = a; number = x; body = c }) K.core refl X.body_in) in (
              true,
              λ x c z g y. (
                λ o.
                    was_roomy m k h K.core a n c' nameLens' names' counts' room room' k' (t.0 c') s t.1 t.2 p1 p2 p3 p4 x c
                    (N x c (ap body_in (sym X.is ∙ g))),
                λ o. absurd (true≢false o),
              ),
              subst (λ (u : Step). Receives m' k' room' a d' Taken u) (sym (step_is true h X e))
                  (record {
                    keeps = keeps_letter m k h K.core a n c' nameLens' names' counts' room room' k' (t.0 c') s t.1 X.is (N n c' refl);
                    outcome = refl;
                    sends = ap (λ (x : List ℕ). record { to = a; bytes = x } ∷ []) (ack_written n d w d' W (read_some s (message n h.me c') X.is).0.1.0 q);
                  }),
            );
        same = λ e. absurd (false≢true e);
        fit = not_unfit Taken tt;
      }
