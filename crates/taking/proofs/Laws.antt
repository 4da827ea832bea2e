-- What reading and taking a message say of the host that memory keeps.
-- Assumes nothing.
use mathlib.Core.Path.{◌≡◌, refl, sym, ap, ◌∙◌, subst}
use mathlib.Core.Logic.{⊎_elim}
use mathlib.Core.Bool.{Bool}
use mathlib.Core.List.{List}
use Prim.Native.Nat.{ℕ, min, ◌+◌, ◌/◌, ◌≤◌, ◌<◌}
use native.Mathlib.Omega.{arith}
use lib.ListN.{length}
use borrow.Author.Tests.{eq-eqb}
use Rattle.memory.specs.Bytes.{Copied}
use Rattle.memory.proofs.Parts.{placed_in}
use Rattle.memory.proofs.Copies.{copied_length}
use Rattle.message.specs.Message.{Address, Body}
use Rattle.peers.specs.Names.{Keeps as KeepsNames, places, joined as named}
use Rattle.delivery.specs.Post.{joined}
use Rattle.delivery.specs.Memory.{Keeps as KeepsPost}
use Rattle.counting.specs.Answers.{AfterTake as AfterCount}
use Rattle.protocol.specs.State.{Host}
use Rattle.hosts.specs.declared.State.{State}
use Rattle.hosts.specs.Memory.{Memory, memory}
use Rattle.hosts.specs.Says.{Strange}
use Rattle.hosts.specs.Keeps.{Core}
use Rattle.hosts.proofs.Names.{length_firsts}
use Rattle.hosts.proofs.Arrivals.{hearing, addressed, holding, no_peer, core_took, core_joined}
use Rattle.std.specs.Prelude.{Some, None, Ok, Err}
use Rattle.limits.specs.declared.NoRoom.{NoRoom}
use Rattle.taking.specs.Answers.{InRoom, Kept, AfterTake}
use Rattle.taking.specs.Inner.{Old, New, AfterSeat}

-- ---- a message is taken from an address that has its number, old or new

-- the host after it, whatever the message says, and the names that are kept then
record Seated (m : Memory) (k : State) (h : Host) (a : Address) (x i n len : ℕ) (lens names counts : List ℕ) : Type 0 where
  N : ℕ → Address
  names_kept : KeepsNames lens names k.width n N
  within : i < n
  has : N i ≡ a
  core : (b : Body) → Core (addressed m lens names counts) (holding k n len i) (hearing a x b h)

module _ (m : Memory) (k : State) (h : Host) (C : Core m k h) (a : Address) (x i n len : ℕ) (lens names counts counts' : List ℕ)
    (W : AfterCount counts i x counts') where
  old_seat : Old m.name_lens m.names m.counts k.width k.peers a i n lens names counts → Seated m k h a x i n len lens names counts'
  old_seat O =
      let p = O.is C.N C.names_kept in
      let w : KeepsPost counts m.places m.mail k.size k.peers C.P =
      subst (λ (l : List ℕ). KeepsPost l m.places m.mail k.size k.peers C.P) (sym O.same_counts) C.post_kept in
      let L : KeepsNames lens names k.width k.peers C.N = rw (O.same_lens, O.same_names) C.names_kept in
      let R : Seated m k h a x i k.peers len lens names counts' = record {
        N = C.N;
        names_kept = L;
        within = p.0;
        has = p.1;
        core = core_took m k h C i p.0 a p.1 x lens names counts' L (W.is m.places m.mail k.size k.peers C.P w p.0) len i;
      } in
      subst (λ (j : ℕ). Seated m k h a x i j len lens names counts') (sym O.as_many) R

  new_seat : Strange C.N k.peers a → New m.name_lens m.names m.counts k.width k.peers a i n lens names counts
      → Seated m k h a x i n len lens names counts'
  new_seat s O =
      let L = O.keeps_names C.N C.names_kept s in
      let w = O.keeps_post m.places m.mail k.size C.P C.post_kept in
      let U : AfterCount counts k.peers x counts' = subst (λ (j : ℕ). AfterCount counts j x counts') O.next W in
      let K = U.is m.places m.mail k.size (k.peers + 1) (joined k.peers C.P) w (omega arith) in
      let R : Seated m k h a x i (k.peers + 1) len lens names counts' = record {
        N = named k.peers a C.N;
        names_kept = L;
        within = omega (arith, O.next);
        has = ap (named k.peers a C.N) O.next ∙ rw (eq-eqb k.peers k.peers refl) refl;
        core = core_joined m k h C a s x lens names counts' L K len i;
      } in
      subst (λ (j : ℕ). Seated m k h a x i j len lens names counts') (sym O.one_more) R

  seat_taken : AfterSeat m.name_lens m.names m.counts k.width k.peers a (Some (i, n)) lens names counts → Seated m k h a x i n len lens names counts'
  seat_taken Z = ⊎_elim (λ o. old_seat o) (λ o. new_seat (o.0 C.N C.names_kept) o.1) Z.is

-- the datagram stands in the room, from the peer i of n
in_room : (k : State) (a : Address) (s room room' : List ℕ) → length s ≤ length room → {t : Bool} → Copied s room 0 t room' → (lens names : List ℕ) (n i : ℕ)
    (N : ℕ → Address) → KeepsNames lens names k.width n N → i < n → N i ≡ a → InRoom lens names (holding k n (length s) i) room' s a
in_room k a s room room' fits Y lens names n i N L p e =
    let f : 0 + length s ≤ length room = omega (arith, fits) in
    record {
      long = refl;
      fits = omega (arith, fits, copied_length s room 0 room' f Y);
      bytes = rw (Y.done f).1 (placed_in room 0 s f);
      from_in = p;
      from_is = L.is i p ∙ e;
    }

-- .. and no other number has changed
kept : (k : State) (n len i : ℕ) → Kept k (holding k n len i)
kept k n len i = record { me = refl; hosts = refl; width = refl; size = refl; bounds = refl; entries = refl; transfers = refl; turns = refl }

module _ {lens names : List ℕ} {k : State} {a : Address} where
  module _ {counts room : List ℕ} {x : ℕ} {s : List ℕ} where
    pub no_seat : {lens' names' counts' : List ℕ} {e : NoRoom} → AfterSeat lens names counts k.width k.peers a None lens' names' counts'
        → AfterTake lens names counts room k a x s (Err e) lens' names' counts' room
    no_seat {lens'} {names'} {counts'} Z = record {
      is = (
        Z.is.1.0,
        Z.is.1.1,
        Z.is.1.2,
        refl,
        λ lows owners keys slots ls values places' mail h C q r.
            let m = memory lows owners keys slots ls values lens names counts places' mail in
            let e : length h.peers ≡ k.peers = sym (ap length C.says.peers_are) ∙ length_firsts C.N k.peers in
            let y = r (no_peer m k h C a (Z.is.0 C.N C.names_kept)) in
            Z.is.1.3 C.names_kept.wide (y.0, subst (λ (n : ℕ). n < min (places lens names k.width) (length counts / 3)) e y.1),
      );
    }

    pub taken : {room' lens' names' counts' counts'' : List ℕ} {t : Bool} {i n : ℕ} → length s ≤ length room
        → AfterSeat lens names counts k.width k.peers a (Some (i, n)) lens' names' counts' → AfterCount counts' i x counts'' → Copied s room 0 t room'
        → AfterTake lens names counts room k a x s (Ok (holding k n (length s) i)) lens' names' counts'' room'
    taken {room'} {lens'} {names'} {counts'} {counts''} {t} {i} {n} fits Z W Y = record {
      is = λ lows owners keys slots ls values places mail h C.
          let m = memory lows owners keys slots ls values lens names counts places mail in
          let S = seat_taken m k h C a x i n (length s) lens' names' counts' counts'' W Z in
          (S.core, in_room k a s room room' fits Y lens' names' n i S.N S.names_kept S.within S.has, kept k n (length s) i);
    }
