-- Receiving here is a step that upstream's relation for receiving allows, for every host, address and bytes.
-- Assumes nothing.
use mathlib.Core.Path.{◌≡◌, refl, sym, ap, ◌∙◌}
use mathlib.Core.Bool.{Bool, true, false, ◌&&◌, and-eq-true_iff}
use mathlib.Core.List.{List, [], ◌∷◌}
use mathlib.Core.Logic.{inl, inr}
use mathlib.Core.Option.{Option, none, some}
use Prim.Native.Nat.{ℕ, suc, ◌+◌, ◌≤◌, ◌<◌}
use native.Mathlib.Omega.{arith}
use lib.Dec.{eqb, ltb, leb}
use borrow.Author.Tests.{eqb-true, eqb-false, ltb-true, leb-true, leb-false}
use Rattle.message.specs.Message.{Address, Body, Datagram}
use Rattle.message.specs.Message.{message as messageOf, ack as ack_of}
use Rattle.decoding.specs.Decode.{same, read}
use Rattle.decoding.proofs.Decided.{same_true}
use Rattle.protocol.specs.Address.{among, with_address, at}
use Rattle.protocol.specs.State.{Host, Letter, took}
use Rattle.protocol.specs.Delivery.{Step, Outcome, still, full, invalid as badBytes, elsewhere, unreceived, stale}
use Rattle.protocol.specs.Receive.{on_number, on_message, on_ack, on_datagram, on_room, receive}
use Rattle.protocol.proofs.Addresses.{at_same}
use Rattle.upstream.specs.Messages.{SingleMessage, message, ack, invalid, Packet}
use Rattle.upstream.specs.Delivery.{insert, last_of, AckState, ack_of as state_of, New}
use Rattle.upstream.specs.Hosts.{AppRequest, Complete, Takes, receives, sent, Next, receive_packet}
use Rattle.upstream.specs.View.{view_body, view_read, arrives, CarriesAll, sending, last_seen, view_ack, view_delivery, view_room, view, recorded}
use Rattle.upstream.proofs.Lists.{all_sends, one_sent, sound}
use Rattle.upstream.proofs.Views.{last_of_lem, seen_took, ack_of_lem, acks_confirmed}

-- the map gives every key a host
pub complete : (past : List AppRequest) (h : Host) → Complete (view past h)
complete past h k = (_, refl)

-- upstream allows the step s of h, where the packet p arrives
pub record Received (past : List AppRequest) (h : Host) (p : Packet) (s : Step) : Type 0 where
  pub packets : List Packet
  pub carried : CarriesAll h.me s.sends packets
  pub next : Next (view past h) (view (recorded past s.executed) s.state) (receives p ∷ sending packets)

module _ (past : List AppRequest) (h : Host) where
  -- what is ignored
  ignored : (p : Packet) (o : Outcome) → Received past h p (still h o)
  ignored p o = record {
    packets = [];
    carried = tt;
    next = record {
      complete = complete past h;
      constants = refl;
      step = receive_packet;
      is = (complete past h, tt, (p, inr (record { may = inr tt; same = refl; nothing = λ q w. w })));
      sound = λ q w e. w;
    };
  }

  -- what is taken up
  taken : (p : Packet) (s : Step) (qs : List Packet) (a : Packet) → CarriesAll h.me s.sends qs
      → (view past h).constants ≡ (view (recorded past s.executed) s.state).constants
      → Takes (view past h) (view (recorded past s.executed) s.state) p (sent (receives p ∷ sending qs)) a → Received past h p s
  taken p s qs a C c T = record {
    packets = qs;
    carried = C;
    next = record {
      complete = complete past h;
      constants = c;
      step = receive_packet;
      is = (complete past h, all_sends qs, (a, inl T));
      sound = sound h.me s.sends qs C;
    };
  }

  module _ (free : h.room ≡ none) (a : Address) where
    abbrev pkt : SingleMessage → Packet
    pkt m = record { dst = h.me; src = a; msg = m }

    -- the Ack of n
    abbrev reply : ℕ → Packet
    reply n = record { dst = a; src = h.me; msg = ack n }

    none_there : (view past h).received ≡ none
    none_there = ap (view_room h.me) free

    -- it is the next message from a
    is_new : (n : ℕ) (to : Address) (b : Body) → n ≡ suc (h.received a) → New (view_delivery h) a (message n to (view_body b))
    is_new n to b e = let u = last_of_lem (h.received a) in omega (arith, e, u)

    not_new : (n : ℕ) (to : Address) (b : Body) → (n ≡ suc (h.received a) → ⊥) → New (view_delivery h) a (message n to (view_body b)) → ⊥
    not_new n to b e w = let u = last_of_lem (h.received a) in e (omega (arith, w, u))

    implied_number : (n : ℕ) (to : Address) (b : Body) → to ≡ h.me → (new old roomy : Bool) → eqb n (suc (h.received a)) ≡ new
        → leb n (h.received a) ≡ old → Received past h (pkt (message n to (view_body b))) (on_number new old roomy h a n b)
    implied_number n to b q true old true e o =
        let new : n ≡ suc (h.received a) = eqb-true n (suc (h.received a)) e in
        let g : Host = took a n b (with_address a h.peers) (at a n h.received) h in
        let last : last_of (last_seen (at a n h.received a)) ≡ n = ap (λ (k : ℕ). last_of (last_seen k)) (at_same a n h.received) ∙ last_of_lem n in
        taken (pkt (message n to (view_body b))) (on_number true old true h a n b) (reply n ∷ []) (reply n)
        ((refl, refl, (ack_of n, refl, refl)), tt) refl
        (record {
          free = none_there;
          delivery = (
            record {
              new = λ w.
                  let u : n ≡ last_of (last_seen (h.received a)) + 1 = w in
                  ap (λ (f : Address → Option ℕ). record { received = f; sends = (view_delivery h).sends })
                  (seen_took a n h.received (omega (arith, new)) ∙ ap (λ (k : ℕ). insert a k (λ x. last_seen (h.received x))) u);
              old = λ w. absurd (w (is_new n to b new));
            },
            record {
              should = λ w. record { number = refl; from = refl; to = refl; only = one_sent (reply n) };
              should_not = λ w. absurd (w (omega (arith, last)));
            },
          );
          new = λ w. ap (λ (z : Address). some (pkt (message n z (view_body b)))) (sym q);
          old = λ w. absurd (w (is_new n to b new));
          else = refl;
        })
    implied_number n to b q true old false e o = ignored (pkt (message n to (view_body b))) unreceived
    implied_number n to b q false true roomy e o =
        let last = last_of_lem (h.received a) in
        let le : n ≤ h.received a = leb-true n (h.received a) o in
        let not : n ≡ suc (h.received a) → ⊥ = eqb-false n (suc (h.received a)) e in
        taken (pkt (message n to (view_body b))) (on_number false true roomy h a n b) (reply n ∷ []) (reply n)
        ((refl, refl, (ack_of n, refl, refl)), tt) refl
        (record {
          free = none_there;
          delivery = (
            record { new = λ w. absurd (not_new n to b not w); old = λ w. refl },
            record {
              should = λ w. record { number = refl; from = refl; to = refl; only = one_sent (reply n) };
              should_not = λ w. absurd (w (omega (arith, last, le)));
            },
          );
          new = λ w. absurd (not_new n to b not w);
          old = λ w. none_there;
          else = refl;
        })
    implied_number n to b q false false roomy e o =
        let last = last_of_lem (h.received a) in
        let more : h.received a < n = leb-false n (h.received a) o in
        let not : n ≡ suc (h.received a) → ⊥ = eqb-false n (suc (h.received a)) e in
        taken (pkt (message n to (view_body b))) (on_number false false roomy h a n b) [] (reply n) tt refl
        (record {
          free = none_there;
          delivery = (
            record { new = λ w. absurd (not_new n to b not w); old = λ w. refl },
            record { should = λ w. absurd (omega (arith, last, more, w)); should_not = λ w q v. v },
          );
          new = λ w. absurd (not_new n to b not w);
          old = λ w. none_there;
          else = refl;
        })

    implied_message : (n : ℕ) (to : Address) (b : Body) (mine roomy : Bool) → same to h.me ≡ mine
        → Received past h (pkt (message n to (view_body b))) (on_message mine roomy h a n b)
    implied_message n to b true roomy e =
        implied_number n to b (same_true to h.me e) (eqb n (suc (h.received a))) (leb n (h.received a)) roomy refl refl
    implied_message n to b false roomy e = ignored (pkt (message n to (view_body b))) elsewhere

    implied_ack : (n : ℕ) (more : Bool) → (among a h.peers && ltb (h.acknowledged a) n) ≡ more
        → Received past h (pkt (ack n)) (on_ack more h a n)
    implied_ack n true e =
        let less : h.acknowledged a < n = ltb-true (h.acknowledged a) n ((and-eq-true_iff (among a h.peers) (ltb (h.acknowledged a) n)).0 e).1 in
        let known = ack_of_lem h a in
        let u : (state_of (view_ack h a)).acked ≡ h.acknowledged a = ap (λ (s : AckState). s.acked) known in
        taken (pkt (ack n)) (on_ack true h a n) [] (reply n) tt refl
        (record {
          free = none_there;
          delivery = record {
            none_sent = λ q w. w;
            more = λ w. acks_confirmed h a n less;
            stale = λ w. absurd (w (omega (arith, u, less)));
          };
          new = λ w. absurd w;
          old = λ w. none_there;
          else = refl;
        })
    implied_ack n false e = ignored (pkt (ack n)) stale

    implied_datagram : (roomy : Bool) (d : Option Datagram) → Received past h (pkt (view_read d)) (on_datagram roomy h a d)
    implied_datagram roomy none = ignored (pkt invalid) badBytes
    implied_datagram roomy (some (messageOf n to b)) = implied_message n to b (same to h.me) roomy refl
    implied_datagram roomy (some (ack_of n)) = implied_ack n (among a h.peers && ltb (h.acknowledged a) n) refl

  implied_room : (roomy : Bool) (o : Option Letter) → h.room ≡ o → (a : Address) (s : List ℕ) → Received past h (arrives h.me a s) (on_room o roomy h a s)
  implied_room roomy (some l) e a s = ignored (arrives h.me a s) full
  implied_room roomy none e a s = implied_datagram e a roomy (read s)

  -- upstream's receive_packet_next holds of receiving
  pub receive_implied : (roomy : Bool) (a : Address) (s : List ℕ) → Received past h (arrives h.me a s) (receive roomy h a s)
  receive_implied roomy a s = implied_room roomy h.room refl a s
