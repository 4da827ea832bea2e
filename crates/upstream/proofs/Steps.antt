-- Sending again, starting and turns are steps that upstream's relations allow.
-- Assumes nothing.
use mathlib.Core.Path.{◌≡◌, refl, sym, ap, subst}
use mathlib.Core.Bool.{Bool, true, false, cond, ◌&&◌, ◌||◌, false≢true}
use mathlib.Core.List.{List, [], ◌∷◌, ◌++◌}
use mathlib.Core.Logic.{inl, inr, ⊎_elim}
use mathlib.Core.Option.{Option, none, some, some-injective, none-ne-some}
use Prim.Native.Nat.{ℕ, zero, suc, ◌+◌, ◌<◌}
use native.Mathlib.Omega.{arith}
use lib.ListN.{length}
use lib.Dec.{eqb, ltb}
use borrow.Author.Tests.{ltb-true}
use Rattle.limits.specs.Limits.{bytes_max}
use Rattle.message.specs.Message.{Address, Body}
use Rattle.message.specs.Message.{message as messageOf}
use Rattle.decoding.specs.Decode.{same}
use Rattle.decoding.proofs.Decided.{same_true}
use Rattle.protocol.specs.Address.{among}
use Rattle.protocol.specs.State.{Host, fresh, start, short, different}
use Rattle.protocol.specs.Delivery.{Packet as Handed, Step, numbered_from, still, waits}
use Rattle.protocol.specs.Retransmit.{to_all, retransmit}
use Rattle.protocol.specs.Turn.{round, kind, resending, by_kind, turn}
use Rattle.world.specs.Single.{Among}
use Rattle.upstream.specs.Messages.{Message, SingleMessage, message, ack, invalid, Packet}
use Rattle.upstream.specs.Delivery.{AckState, UnAcked}
use Rattle.upstream.specs.Hosts.{AppRequest, Io, receives, Next, retransmit_all, stutter, AllAddresses, Init}
use Rattle.upstream.specs.View.{view_body, arrives, CarriesAll, sending, messages_from, heard_of, view_delivery, view, recorded}
use Rattle.world.proofs.Lists.{among_left, among_right, among_either}
use Rattle.upstream.proofs.Lists.{sent_sending, all_sends, sound}
use Rattle.upstream.proofs.Receives.{complete, receive_implied}
use Rattle.upstream.proofs.Processes.{Sane, Processed, process_implied}

-- ---- sending again

-- only peers are waited for; so it is of every host that memory keeps (`hosts.Says`)
abbrev pub Peers : Host → Type 0
Peers h = (a : Address) → (h.waiting a ≡ [] → ⊥) → among a h.peers ≡ true

module _ (past : List AppRequest) (h : Host) where
  -- the packets for one peer, and for all of a list
  packets_to : ℕ → Address → List Body → List Packet
  packets_to n a [] = []
  packets_to n a (b ∷ l) = record { dst = a; src = h.me; msg = message n a (view_body b) } ∷ packets_to (suc n) a l

  packets_all : List Address → List Packet
  packets_all [] = []
  packets_all (a ∷ l) = packets_to (h.acknowledged a + 1) a (h.waiting a) ++ packets_all l

  carries_append : (l m : List Handed) (p q : List Packet) → CarriesAll h.me l p → CarriesAll h.me m q → CarriesAll h.me (l ++ m) (p ++ q)
  carries_append [] m [] q C D = D
  carries_append [] m (x ∷ p) q C D = absurd C
  carries_append (y ∷ l) m [] q C D = absurd C
  carries_append (y ∷ l) m (x ∷ p) q C D = (C.0, carries_append l m p q C.1 D)

  carries_to : (n : ℕ) (a : Address) (l : List Body) → CarriesAll h.me (numbered_from n a l) (packets_to n a l)
  unfolding packets_to
  carries_to n a [] = tt
  carries_to n a (b ∷ l) = ((refl, refl, (messageOf n a b, refl, refl)), carries_to (suc n) a l)

  carries_all : (l : List Address) → CarriesAll h.me (to_all h l) (packets_all l)
  unfolding packets_all
  carries_all [] = tt
  carries_all (a ∷ l) =
      carries_append (numbered_from (h.acknowledged a + 1) a (h.waiting a)) (to_all h l) (packets_to (h.acknowledged a + 1) a (h.waiting a)) (packets_all l)
      (carries_to (h.acknowledged a + 1) a (h.waiting a)) (carries_all l)

  -- a packet for a peer is one of its messages, and the other way round
  to_message : (n : ℕ) (a : Address) (l : List Body) (p : Packet) → Among p (packets_to n a l)
      → (k : ℕ) × (m : Message) × Among (message k a m) (messages_from n a l) × (p.msg ≡ message k a m) × (p.dst ≡ a) × (p.src ≡ h.me)
  unfolding packets_to
  to_message n a [] p o = absurd o
  to_message n a (b ∷ l) p (inl e) =
      (n, view_body b, inl refl, ap (λ (q : Packet). q.msg) e, ap (λ (q : Packet). q.dst) e, ap (λ (q : Packet). q.src) e)
  to_message n a (b ∷ l) p (inr o) = let r = to_message (suc n) a l p o in (r.0, r.1, inr r.2, r.3, r.4, r.5)

  of_message : (n : ℕ) (a : Address) (l : List Body) (k : ℕ) (d : Address) (m : Message) → Among (message k d m) (messages_from n a l)
      → (d ≡ a) × Among (record { dst = d; src = h.me; msg = message k d m }) (packets_to n a l)
  unfolding packets_to
  of_message n a [] k d m o = absurd o
  of_message n a (b ∷ l) k d m (inl e) = (ap dst_of e, inl (ap (λ (s : SingleMessage). record { dst = dst_of s; src = h.me; msg = s }) e))
    where
      dst_of : SingleMessage → Address
      dst_of (message s x y) = x
      dst_of (ack s) = a
      dst_of invalid = a
  of_message n a (b ∷ l) k d m (inr o) = let r = of_message (suc n) a l k d m o in (r.0, inr r.1)

  one_is_suc : (n : ℕ) → n + 1 ≡ suc n
  one_is_suc n = omega arith

  all_unacked : (l : List Address) (p : Packet) → Among p (packets_all l) → UnAcked (view_delivery h) h.me p
  unfolding packets_all packets_to
  all_unacked [] p o = absurd o
  all_unacked (a ∷ l) p o =
      ⊎_elim
      (λ w.
      let r = to_message (h.acknowledged a + 1) a (h.waiting a) p w in (
        r.5,
        (
          a,
          record { acked = h.acknowledged a; unacked = messages_from (suc (h.acknowledged a)) a (h.waiting a) },
          r.0,
          a,
          r.1,
          known (h.waiting a) refl w,
          subst (λ (n : ℕ). Among (message r.0 a r.1) (messages_from n a (h.waiting a))) (one_is_suc (h.acknowledged a)) r.2,
          r.3,
          r.4,
        ),
      ))
      (λ w. all_unacked l p w)
      (among_either p (packets_to (h.acknowledged a + 1) a (h.waiting a)) (packets_all l) o)
    where
      known : (w : List Body) → h.waiting a ≡ w → Among p (packets_to (h.acknowledged a + 1) a w)
          → cond {A = Option AckState} (heard_of (h.acknowledged a) (h.waiting a)) (some (record { acked = h.acknowledged a; unacked = messages_from (suc (h.acknowledged a)) a (h.waiting a) })) none
          ≡ some (record { acked = h.acknowledged a; unacked = messages_from (suc (h.acknowledged a)) a (h.waiting a) })
      known [] e o = absurd o
      known (b ∷ w) e o =
          ap (λ (z : List Body). cond {A = Option AckState} (heard_of (h.acknowledged a) z) (some (record { acked = h.acknowledged a; unacked = messages_from (suc (h.acknowledged a)) a (h.waiting a) })) none) e

  -- what waits for a peer of the list is among them
  in_all : (l : List Address) (a : Address) (p : Packet) → among a l ≡ true → Among p (packets_to (h.acknowledged a + 1) a (h.waiting a)) → Among p (packets_all l)
  unfolding packets_all
  in_all [] a p e o = absurd (false≢true e)
  in_all (b ∷ l) a p e o = go (same a b) refl e (in_all l a p)
    where
      go : (t : Bool) → same a b ≡ t → t || among a l ≡ true → (among a l ≡ true → Among p (packets_to (h.acknowledged a + 1) a (h.waiting a)) → Among p (packets_all l))
          → Among p (packets_to (h.acknowledged b + 1) b (h.waiting b) ++ packets_all l)
      go true q w f =
          among_left p (packets_to (h.acknowledged b + 1) b (h.waiting b)) (packets_all l)
          (subst (λ (z : Address). Among p (packets_to (h.acknowledged z + 1) z (h.waiting z))) (same_true a b q) o)
      go false q w f = among_right p (packets_to (h.acknowledged b + 1) b (h.waiting b)) (packets_all l) (f w o)

  unacked_all : Peers h → (p : Packet) → UnAcked (view_delivery h) h.me p → Among p (packets_all h.peers)
  unfolding packets_all packets_to
  unacked_all P p u =
      let a = u.1.0 in
      let M : Among (message u.1.2 u.1.3 u.1.4) (messages_from (suc (h.acknowledged a)) a (h.waiting a)) =
      there (heard_of (h.acknowledged a) (h.waiting a)) u.1.5 u.1.6 in
      let r = of_message (h.acknowledged a + 1) a (h.waiting a) u.1.2 u.1.3 u.1.4
      (subst (λ (n : ℕ). Among (message u.1.2 u.1.3 u.1.4) (messages_from n a (h.waiting a))) (sym (one_is_suc (h.acknowledged a))) M) in
      in_all h.peers a p (P a (λ e. subst (λ (l : List Body). Among (message u.1.2 u.1.3 u.1.4) (messages_from (suc (h.acknowledged a)) a l)) e M))
      (subst (λ (q : Packet). Among q (packets_to (h.acknowledged a + 1) a (h.waiting a))) (λ i. record { dst = sym u.1.8 i; src = sym u.0 i; msg = sym u.1.7 i }) r.1)
    where
      there : (t : Bool) → cond {A = Option AckState} t (some (record { acked = h.acknowledged u.1.0; unacked = messages_from (suc (h.acknowledged u.1.0)) u.1.0 (h.waiting u.1.0) })) none ≡ some u.1.1
          → Among (message u.1.2 u.1.3 u.1.4) u.1.1.unacked → Among (message u.1.2 u.1.3 u.1.4) (messages_from (suc (h.acknowledged u.1.0)) u.1.0 (h.waiting u.1.0))
      there true e o = subst (λ (s : AckState). Among (message u.1.2 u.1.3 u.1.4) s.unacked) (sym (some-injective _ u.1.1 e)) o
      there false e o = absurd (none-ne-some u.1.1 e)

  -- upstream's spontaneously_retransmit_next holds of sending again
  pub retransmit_implied : Peers h → Processed past h (retransmit h)
  retransmit_implied P = record {
    packets = packets_all h.peers;
    carried = carries_all h.peers;
    next = record {
      complete = complete past h;
      constants = refl;
      step = retransmit_all;
      is = (
        complete past h,
        inl (
          all_sends (packets_all h.peers),
          (λ p. (
            (λ o. all_unacked h.peers p (subst (λ (l : List Packet). Among p l) (sent_sending (packets_all h.peers)) o)),
            (λ u. subst (λ (l : List Packet). Among p l) (sym (sent_sending (packets_all h.peers))) (unacked_all P p u)),
          )),
          refl,
        ),
      );
      sound = sound h.me (to_all h h.peers) (packets_all h.peers) (carries_all h.peers);
    };
  }

  -- nothing is done
  still_implied : Processed past h (still h waits)
  still_implied = record {
    packets = [];
    carried = tt;
    next = record { complete = complete past h; constants = refl; step = stutter; is = (refl, refl); sound = λ q w e. w };
  }

-- ---- starting

addresses_short : (l : List Address) → short l ≡ true → AllAddresses l
addresses_short [] e = tt
addresses_short (a ∷ l) e = go (ltb (length a) bytes_max) refl e (addresses_short l)
  where
    go : (t : Bool) → ltb (length a) bytes_max ≡ t → t && short l ≡ true → (short l ≡ true → AllAddresses l) → (length a < bytes_max) × AllAddresses l
    go true p q f = (ltb-true (length a) bytes_max p, f q)
    go false p q f = absurd (false≢true q)

-- upstream's init holds of a host that starts
pub start_implied : (hosts : List Address) (me : Address) (h : Host) → start hosts me ≡ some h → Init (view [] h) me hosts
start_implied [] me h e = absurd (none-ne-some h e)
start_implied (a ∷ l) me h e = go (different (a ∷ l)) (short (a ∷ l)) refl (among me (a ∷ l)) e
  where
    go : (t u : Bool) → short (a ∷ l) ≡ u → (v : Bool) → cond (t && (u && v)) (some (fresh a (a ∷ l) me)) none ≡ some h → Init (view [] h) me (a ∷ l)
    go true true q true w =
        subst (λ (g : Host). Init (view [] g) me (a ∷ l)) (some-injective (fresh a (a ∷ l) me) h w) (addresses_short (a ∷ l) q, refl)
    go true true q false w = absurd (none-ne-some h w)
    go true false q v w = absurd (none-ne-some h w)
    go false u q v w = absurd (none-ne-some h w)

-- ---- turns: `next` holds of a turn, whichever step it is. The count of turns is no part of upstream's state

-- the datagram that arrives, if it is looked at
abbrev pub looked : ℕ → (me : Address) → Option (Address × List ℕ) → List Io
looked zero me none = []
looked zero me (some p) = receives (arrives me p.0 p.1) ∷ []
looked (suc k) me p = []

pub record Turned (past : List AppRequest) (h : Host) (p : Option (Address × List ℕ)) (s : Step) : Type 0 where
  pub packets : List Packet
  pub carried : CarriesAll h.me s.sends packets
  pub next : Next (view past h) (view (recorded past s.executed) s.state) (looked (kind h) h.me p ++ sending packets)

module _ (past : List AppRequest) (h : Host) (S : Sane h) (P : Peers h) where
  kind_implied : (k : ℕ) (roomy fits : Bool) (p : Option (Address × List ℕ))
      → (qs : List Packet) × CarriesAll h.me (by_kind k roomy fits h p).sends qs
      × Next (view past h) (view (recorded past (by_kind k roomy fits h p).executed) (by_kind k roomy fits h p).state) (looked k h.me p ++ sending qs)
  kind_implied zero roomy fits none = let r = still_implied past h in (r.packets, r.carried, r.next)
  kind_implied zero roomy fits (some p) = let r = receive_implied past h roomy p.0 p.1 in (r.packets, r.carried, r.next)
  kind_implied (suc zero) roomy fits p = let r = process_implied past h S fits in (r.packets, r.carried, r.next)
  kind_implied (suc (suc k)) roomy fits p = due (eqb (h.turns + 1) round)
    where
      due : (t : Bool) → (qs : List Packet) × CarriesAll h.me (resending t h).sends qs
          × Next (view past h) (view (recorded past (resending t h).executed) (resending t h).state) (sending qs)
      due true = let r = retransmit_implied past h P in (r.packets, r.carried, r.next)
      due false = let r = still_implied past h in (r.packets, r.carried, r.next)

  pub turn_implied : (roomy fits : Bool) (p : Option (Address × List ℕ)) → Turned past h p (turn roomy fits h p)
  turn_implied roomy fits p = let r = kind_implied (kind h) roomy fits p in record { packets = r.0; carried = r.1; next = r.2 }
