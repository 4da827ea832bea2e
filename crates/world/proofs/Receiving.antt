-- Receiving is fine, whatever arrives from a stranger, and if what comes from a host was handed out by it.
-- Assumes nothing.
use mathlib.Core.Path.{◌≡◌, refl, sym, ap, ◌∙◌, subst}
use mathlib.Core.Bool.{Bool, true, false, ◌&&◌, cond, and-eq-true_iff}
use mathlib.Core.List.{List, [], ◌∷◌, ◌++◌, append-nil}
use mathlib.Core.Option.{Option, none, some}
use Prim.Native.Nat.{ℕ, suc, ◌≤◌, ◌<◌}
use native.Mathlib.Omega.{arith}
use lib.Dec.{eqb, ltb, leb}
use borrow.Author.Tests.{eqb-true, ltb-true, leb-true}
use Rattle.message.specs.Message.{Address, Body, Datagram, message, ack}
use Rattle.message.specs.Table.{Valid}
use Rattle.decoding.specs.Decode.{same, read}
use Rattle.decoding.proofs.Decided.{same_true, same_refl}
use Rattle.protocol.specs.Address.{among, with_address, at}
use Rattle.protocol.specs.State.{Host, Letter, took}
use Rattle.protocol.specs.Delivery.{ack_to, confirmed, full, invalid, elsewhere, unreceived, again, future, stale}
use Rattle.protocol.specs.Receive.{on_number, on_message, on_ack, on_datagram, on_room, receive}
use Rattle.protocol.proofs.Addresses.{at_same, among_snoc, or_right}
use Rattle.world.specs.World.{World}
use Rattle.world.specs.Events.{nth}
use Rattle.world.proofs.Invariant.{States, Speaks, Spoken, Always}
use Rattle.world.proofs.Local.{received_rises}
use Rattle.world.proofs.Changes.{at_cases, at_self}
use Rattle.world.proofs.Quiet.{core_took, core_confirmed}
use Rattle.world.proofs.Net.{Fine, fine_same, From, from_read, packet_of}

-- whoever has a place keeps it, and the sender gets one
among_with : (c a : Address) (l : List Address) → among c l ≡ true → among c (with_address a l) ≡ true
among_with c a l e = go (among a l)
  where
    go : (t : Bool) → among c (cond t l (l ++ (a ∷ []))) ≡ true
    go true = e
    go false = among_snoc c a l ∙ rw e refl

with_self : (a : Address) (l : List Address) → among a (with_address a l) ≡ true
with_self a l = go (among a l) refl
  where
    go : (t : Bool) → among a l ≡ t → among a (cond t l (l ++ (a ∷ []))) ≡ true
    go true e = e
    go false e = among_snoc a a l ∙ or_right (among a l) (same a a) (same_refl a)

module _ {H : List Address} {W : World} (A : Always H W) (x : Address) (isHost : among x H ≡ true) (a : Address) (s : List ℕ)
    (F : From H W.state W.executed W.made x a s) where
  -- an Ack of what was received
  ack_spoken : (S : States) (n : ℕ) → Valid (ack n) → n ≤ (S x).received a → Spoken H S W.executed W.made (packet_of x (ack_to a n))
  ack_spoken S n v r = record { datagram = ack n; valid = v; bytes = refl; from = isHost; speaks = λ e. r }

  module _ (free : (W.state x).room ≡ none) where
    fine_took : (n : ℕ) (b : Body) → Valid (message n x b) → n ≡ suc ((W.state x).received a)
        → (among a H ≡ true → nth ((W.state x).received a) (W.made a x) ≡ some b)
        → Fine H W x (on_number true (leb n ((W.state x).received a)) true (W.state x) a n b)
    fine_took n b v new sent = record {
      core = core_took A.core x isHost free a n b (with_address a (W.state x).peers) new v F.short sent (λ c q. among_with c a (W.state x).peers q) (with_self a (W.state x).peers);
      grows = record {
        received = λ y c. at_cases x (took a n b (with_address a (W.state x).peers) (at a n (W.state x).received) (W.state x)) W.state
            (λ g. (W.state y).received c ≤ g.received c) y
            (λ q.
            let u : (W.state y).received c ≡ (W.state x).received c = ap (λ (z : Address). (W.state z).received c) q in
            let r = received_rises (A.core.local x isHost) a n b (with_address a (W.state x).peers) new v F.short (λ d q. among_with d a (W.state x).peers q) (with_self a (W.state x).peers) c in
            omega (arith, u, r))
            (λ q. omega arith);
        made = λ p q. ([], sym (append-nil (W.made p q)));
        told = λ y c m d T. T;
      };
      spoken = (
        ack_spoken (at x (took a n b (with_address a (W.state x).peers) (at a n (W.state x).received) (W.state x)) W.state) n (omega arith, v.1.0)
            (let u : (at x (took a n b (with_address a (W.state x).peers) (at a n (W.state x).received) (W.state x)) W.state x).received a ≡ n =
            ap (λ (g : Host). g.received a)
            (at_self x (took a n b (with_address a (W.state x).peers) (at a n (W.state x).received) (W.state x)) W.state x refl)
            ∙ at_same a n (W.state x).received in
            omega (arith, u)),
        tt,
      );
    }

    fine_number : (n : ℕ) (b : Body) → Valid (message n x b) → (among a H ≡ true → (i : ℕ) × (n ≡ suc i) × (nth i (W.made a x) ≡ some b))
        → (new old roomy : Bool) → eqb n (suc ((W.state x).received a)) ≡ new → leb n ((W.state x).received a) ≡ old
        → Fine H W x (on_number new old roomy (W.state x) a n b)
    fine_number n b v sent true old true e o =
        let q : n ≡ suc ((W.state x).received a) = eqb-true n (suc ((W.state x).received a)) e in
        fine_took n b v q
        (λ h.
        let R = sent h in
        let u : R.0 ≡ (W.state x).received a = omega (arith, q, R.1) in
        subst (λ (i : ℕ). nth i (W.made a x) ≡ some b) u R.2)
    fine_number n b v sent true old false e o = fine_same A x [] unreceived refl tt
    fine_number n b v sent false true roomy e o =
        fine_same A x (ack_to a n ∷ []) again refl (ack_spoken W.state n (omega arith, v.1.0) (leb-true n ((W.state x).received a) o), tt)
    fine_number n b v sent false false roomy e o = fine_same A x [] future refl tt

    me_is : (W.state x).me ≡ x
    me_is = (A.core.local x isHost).me_is

    fine_message : (roomy : Bool) (n : ℕ) (to : Address) (b : Body) → Valid (message n to b)
        → (among a H ≡ true → Speaks H W.state W.executed W.made (record { from = a; to = x; bytes = s }) (message n to b))
        → (mine : Bool) → same to (W.state x).me ≡ mine → Fine H W x (on_message mine roomy (W.state x) a n b)
    fine_message roomy n to b v P true e =
        let q : to ≡ x = same_true to (W.state x).me e ∙ me_is in
        fine_number n b (subst (λ (z : Address). Valid (message n z b)) q v) (λ h. (P h).2 isHost) (eqb n (suc ((W.state x).received a)))
        (leb n ((W.state x).received a)) roomy refl refl
    fine_message roomy n to b v P false e = fine_same A x [] elsewhere refl tt

    fine_ack : (n : ℕ) → Valid (ack n) → (among a H ≡ true → n ≤ (W.state a).received x)
        → (more : Bool) → (among a (W.state x).peers && ltb ((W.state x).acknowledged a) n) ≡ more → Fine H W x (on_ack more (W.state x) a n)
    fine_ack n v P true e =
        let less : (W.state x).acknowledged a < n = ltb-true ((W.state x).acknowledged a) n ((and-eq-true_iff (among a (W.state x).peers) (ltb ((W.state x).acknowledged a) n)).0 e).1 in record {
          core = core_confirmed A.core x isHost a n less v.1 P;
          grows = record {
            received = λ y c. at_cases x (confirmed a n (W.state x)) W.state (λ g. (W.state y).received c ≤ g.received c) y
                (λ q. let u : (W.state y).received c ≡ (W.state x).received c = ap (λ (z : Address). (W.state z).received c) q in omega (arith, u))
                (λ q. omega arith);
            made = λ p q. ([], sym (append-nil (W.made p q)));
            told = λ y c m d T. T;
          };
          spoken = tt;
        }
    fine_ack n v P false e = fine_same A x [] stale refl tt

    fine_datagram : (roomy : Bool) (d : Option Datagram) → read s ≡ d → Fine H W x (on_datagram roomy (W.state x) a d)
    fine_datagram roomy none e = fine_same A x [] invalid refl tt
    fine_datagram roomy (some (message n to b)) e =
        let R = from_read F (message n to b) e in fine_message roomy n to b R.0 R.1 (same to (W.state x).me) refl
    fine_datagram roomy (some (ack n)) e =
        let R = from_read F (ack n) e in
        fine_ack n R.0 (λ h. R.1 h isHost) (among a (W.state x).peers && ltb ((W.state x).acknowledged a) n) refl

  fine_room : (roomy : Bool) (r : Option Letter) → (W.state x).room ≡ r → Fine H W x (on_room r roomy (W.state x) a s)
  fine_room roomy (some l) e = fine_same A x [] full refl tt
  fine_room roomy none e = fine_datagram e roomy (read s) refl

  pub fine_receive : (roomy : Bool) → Fine H W x (receive roomy (W.state x) a s)
  fine_receive roomy = fine_room roomy (W.state x).room refl
