-- Every event is fine: whatever holds always holds after it.
-- Assumes nothing.
use mathlib.Core.Path.{◌≡◌, refl, sym, ap, ◌∙◌, subst}
use mathlib.Core.Bool.{Bool, true, false, cond, ◌&&◌, not, false≢true}
use mathlib.Core.List.{List, [], ◌∷◌}
use mathlib.Core.Option.{Option, none, some}
use Prim.Native.Nat.{ℕ, zero, suc, ◌+◌, ◌%◌}
use native.Mathlib.Omega.{arith}
use lib.ListN.{length, drop}
use lib.Dec.{eqb, ltb}
use borrow.Author.Tests.{ltb-true}
use Rattle.limits.specs.Limits.{bytes_max}
use Rattle.message.specs.Message.{Address, Body, Datagram, message, ack}
use Rattle.decoding.specs.Decode.{same}
use Rattle.decoding.proofs.Decided.{same_true}
use Rattle.protocol.specs.Address.{among, at}
use Rattle.protocol.specs.State.{Host, turned, different, short}
use Rattle.protocol.specs.Delivery.{Packet, Step, numbered_from, waits, resent}
use Rattle.protocol.specs.Retransmit.{to_all, retransmit}
use Rattle.protocol.specs.Turn.{round, kind, resending, by_kind, ended, turn}
use Rattle.protocol.proofs.Addresses.{short_among}
use Rattle.world.specs.World.{Sent, Executed, World}
use Rattle.world.specs.Events.{Source, network, stranger, Move, receiving, processing, retransmitting, turning, Event, nth, brought, is_stranger, arrival, optional, on_arrival, step_of, after, step, run}
use Rattle.world.proofs.Lists.{All, all_append, all_map, all_nth, nth_drop, drop_drop}
use Rattle.world.proofs.Invariant.{States, Moves, Outgoing, Local, Speaks, Spoken, Always}
use Rattle.world.proofs.Net.{Goes, Fine, fine_same, always_after, From, packet_of}
use Rattle.world.proofs.Receiving.{fine_receive}
use Rattle.world.proofs.Processing.{fine_process}

-- ---- the count of turns is in no clause

local_turned : {H : List Address} {E : List Executed} {x : Address} {h : Host} (n : ℕ) → Local H E x h → Local H E x (turned n h)
local_turned n L = record {
  me_is = L.me_is;
  hosts_are = L.hosts_are;
  owner_in = L.owner_in;
  hosts_known = L.hosts_known;
  waits_known = L.waits_known;
  sorted = L.sorted;
  kept = L.kept;
  room_is = λ l e. let R = L.room_is l e in record { last = R.last; valid = R.valid; known = R.known; short = R.short; undone = R.undone };
  done = L.done;
  told = L.told;
  numbered = L.numbered;
  outgoing = L.outgoing;
}

module _ {H : List Address} {W : World} {x : Address} {E : List Executed} {M C : Moves} {sends : List Packet} where
  goes_turned : (S : States) (t : Address → ℕ) → Goes H W x S E M C sends → Goes H W x (λ y. turned (t y) (S y)) E M C sends
  goes_turned S t G = record {
    core = record {
      local = λ y e. local_turned (t y) (G.core.local y e);
      link = G.core.link;
      one = G.core.one;
      right = G.core.right;
      clean = G.core.clean;
      right_way = G.core.right_way;
      answered = G.core.answered;
      once = G.core.once;
    };
    grows = record { received = G.grows.received; made = G.grows.made; told = G.grows.told };
    spoken = all_map (λ p. Spoken H S E M (packet_of x p)) (λ p. Spoken H (λ y. turned (t y) (S y)) E M (packet_of x p))
        (λ p P. record { datagram = P.datagram; valid = P.valid; bytes = P.bytes; from = P.from; speaks = said p P P.datagram P.speaks }) sends G.spoken;
  }
    where
      said : (p : Packet) (P : Spoken H S E M (packet_of x p)) (d : Datagram) → Speaks H S E M (packet_of x p) d
          → Speaks H (λ y. turned (t y) (S y)) E M (packet_of x p) d
      said p P (message n a b) Q = Q
      said p P (ack n) Q = Q

  -- the host's turn is over
  goes_over : (g : Host) (n : ℕ) → Goes H W x (at x g W.state) E M C sends → Goes H W x (at x (turned n g) W.state) E M C sends
  goes_over g n G =
      subst (λ (S : States). Goes H W x S E M C sends) (λ i y. same_host y (same y x) i)
      (goes_turned (at x g W.state) (at x n (λ y. (W.state y).turns)) G)
    where
      same_host : (y : Address) (u : Bool) → turned (cond u n (W.state y).turns) (cond u g (W.state y)) ≡ cond u (turned n g) (W.state y)
      same_host y true = refl
      same_host y false = refl

module _ {H : List Address} {W : World} (A : Always H W) (d : different H ≡ true) (s : short H ≡ true) (x : Address) (isHost : among x H ≡ true) where
  -- ---- sending again

  -- messages that wait for a are true, and if a is a host, each is the one with its number
  again : (a : Address) (n : ℕ) (l : List Body) → Outgoing H W.executed x a (suc n) l → (among a H ≡ true → l ≡ drop n (W.made x a))
      → All (λ p. Spoken H W.state W.executed W.made (packet_of x p)) (numbered_from (suc n) a l)
  again a n [] O e = tt
  again a n (b ∷ l) O e = (
    record {
      datagram = message (suc n) a b;
      valid = O.0;
      bytes = refl;
      from = isHost;
      speaks = (
        refl,
        O.1,
        λ h. (n, refl, sym (nth_drop 0 n n (W.made x a) (omega arith)) ∙ ap (nth 0) (sym (e h))),
      );
    },
    again a (suc n) l O.2 (λ h. ap (drop 1) (e h) ∙ drop_drop 1 n (suc n) (W.made x a) (omega arith)),
  )

  again_all : (l : List Address) → All (λ p. Spoken H W.state W.executed W.made (packet_of x p)) (to_all (W.state x) l)
  again_all [] = tt
  again_all (a ∷ l) =
      let u : suc ((W.state x).acknowledged a) ≡ (W.state x).acknowledged a + 1 = omega arith in
      all_append (λ p. Spoken H W.state W.executed W.made (packet_of x p)) (numbered_from ((W.state x).acknowledged a + 1) a ((W.state x).waiting a))
      (to_all (W.state x) l)
      (subst (λ (n : ℕ). All (λ p. Spoken H W.state W.executed W.made (packet_of x p)) (numbered_from n a ((W.state x).waiting a))) u
      (again a ((W.state x).acknowledged a) ((W.state x).waiting a) ((A.core.local x isHost).outgoing a) (λ h. (A.core.link x a isHost h).waits)))
      (again_all l)

  fine_retransmit : Fine H W x (retransmit (W.state x))
  fine_retransmit = fine_same A x (to_all (W.state x) (W.state x).peers) resent refl (again_all (W.state x).peers)

  -- ---- what arrives

  abbrev Arrives : Option (Address × List ℕ) → Type 0
  Arrives none = Unit
  Arrives (some p) = From H W.state W.executed W.made x p.0 p.1

  from_host : (p : Sent) → Spoken H W.state W.executed W.made p → (t : Bool) → same p.to x ≡ t → Arrives (cond t (some (p.from, p.bytes)) none)
  from_host p P true e = record {
    short = short_among H s p.from P.from;
    host = λ h. subst (λ (z : Address). Spoken H W.state W.executed W.made (record { from = p.from; to = z; bytes = p.bytes })) (same_true p.to x e) P;
  }
  from_host p P false e = tt

  from_net : (p : Option Sent) → ((q : Sent) → p ≡ some q → Spoken H W.state W.executed W.made q) → Arrives (brought x p)
  from_net none f = tt
  from_net (some q) f = from_host q (f q refl) (same q.to x) refl

  from_stranger : (a : Address) (b : List ℕ) (t : Bool) → is_stranger W.hosts a ≡ t → Arrives (cond t (some (a, b)) none)
  from_stranger a b true e = go (among a W.hosts) refl e
    where
      go : (u : Bool) → among a W.hosts ≡ u → not u && ltb (length a) bytes_max ≡ true → From H W.state W.executed W.made x a b
      go true q r = absurd (false≢true r)
      go false q r = record {
        short = ltb-true (length a) bytes_max r;
        host = λ h. absurd (false≢true (sym q ∙ ap (among a) A.hosts_are ∙ h));
      }
  from_stranger a b false e = tt

  arrives : (p : Source) → Arrives (arrival W.hosts W.sent x p)
  arrives (network n) = from_net (nth n W.sent) (λ q e. all_nth (Spoken H W.state W.executed W.made) n W.sent q A.net e)
  arrives (stranger a b) = from_stranger a b (is_stranger W.hosts a) refl

  arrives_maybe : (p : Option Source) → Arrives (optional W.hosts W.sent x p)
  arrives_maybe none = tt
  arrives_maybe (some p) = arrives p

  fine_arrival : (roomy : Bool) (p : Option (Address × List ℕ)) → Arrives p → Fine H W x (on_arrival roomy (W.state x) p)
  fine_arrival roomy none F = fine_same A x [] waits refl tt
  fine_arrival roomy (some p) F = fine_receive A x isHost p.0 p.1 F roomy

  -- ---- turns

  fine_resending : (due : Bool) → Fine H W x (resending due (W.state x))
  fine_resending true = fine_retransmit
  fine_resending false = fine_same A x [] waits refl tt

  fine_kind : (k : ℕ) (roomy fits : Bool) (p : Option (Address × List ℕ)) → Arrives p → Fine H W x (by_kind k roomy fits (W.state x) p)
  fine_kind zero roomy fits none F = fine_same A x [] waits refl tt
  fine_kind zero roomy fits (some p) F = fine_receive A x isHost p.0 p.1 F roomy
  fine_kind (suc zero) roomy fits p F = fine_process A d s x isHost fits
  fine_kind (suc (suc k)) roomy fits p F = fine_resending (eqb ((W.state x).turns + 1) round)

  fine_ended : (g : Step) → Fine H W x g → Fine H W x (ended g)
  fine_ended g F = goes_over g.state ((g.state.turns + 1) % round) F

  fine_turn : (roomy fits : Bool) (p : Option Source) → Fine H W x (turn roomy fits (W.state x) (optional W.hosts W.sent x p))
  fine_turn roomy fits p =
      fine_ended (by_kind (kind (W.state x)) roomy fits (W.state x) (optional W.hosts W.sent x p)) (fine_kind (kind (W.state x)) roomy fits (optional W.hosts W.sent x p) (arrives_maybe p))

  pub fine_step : (m : Move) → Fine H W x (step_of W x m)
  fine_step (receiving p roomy) = fine_arrival roomy (arrival W.hosts W.sent x p) (arrives p)
  fine_step (processing fits) = fine_process A d s x isHost fits
  fine_step retransmitting = fine_retransmit
  fine_step (turning p roomy fits) = fine_turn roomy fits p

module _ {H : List Address} (d : different H ≡ true) (s : short H ≡ true) where
  pub always_step : {W : World} → Always H W → (e : Event) → Always H (step W e)
  always_step {W} A e = go (among e.host W.hosts) refl
    where
      go : (t : Bool) → among e.host W.hosts ≡ t → Always H (cond t (after W e.host e.out (step_of W e.host e.move)) W)
      go true q =
          let h : among e.host H ≡ true = ap (among e.host) (sym A.hosts_are) ∙ q in
          always_after e.host e.out (step_of W e.host e.move) A (fine_step A d s e.host h e.move)
      go false q = A

  pub always_run : {W : World} → Always H W → (l : List Event) → Always H (run W l)
  always_run A [] = A
  always_run {W = W} A (e ∷ l) = always_run {W = step W e} (always_step A e) l
