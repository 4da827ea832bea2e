-- The laws of an Ack: what the places hold and memory keeps once the messages that arrived no longer wait, and which place is the one.
-- Assumes nothing.
use mathlib.Core.Path.{◌≡◌, refl, sym, ap, ◌∙◌, subst}
use mathlib.Core.Logic.{⊎_elim, ◌⊎◌, inl, inr}
use mathlib.Core.List.{List, []}
use Prim.Native.Nat.{ℕ, suc, max, ◌+◌, ◌-◌, ◌*◌, ◌/◌, ◌≤◌, ◌<◌}
use native.Mathlib.Numerals.{add-one}
use native.Mathlib.Omega.{arith}
use lib.ListN.{length, drop, get_or, set, length-set, length-drop}
use lib.Seq.{get_or-set_same, get_or-set_other, get_or-drop}
use Rattle.columns.proofs.Cases.{lt_or_ge, eq_or_ne}
use Rattle.memory.specs.Bytes.{part}
use Rattle.delivery.specs.Post.{Post, last, confirmed}
use Rattle.delivery.specs.Memory.{Holding, Keeps, acknowledged_of, last_of, capacity, mark_at, number_at, datagram_at}
use Rattle.delivery.proofs.Laws.{at_same, at_other, at_all}
use Rattle.clearing.specs.Answers.{Cleared}
use Rattle.confirming.specs.Answers.{One, Freed, Ahead}

-- ---- what waits

module _ (i x : ℕ) (P : Post) where
  acks_same : (confirmed i x P).acknowledged i ≡ x
  acks_same = at_same i x P.acknowledged

  acks_other : (k : ℕ) → (k ≡ i → ⊥) → (confirmed i x P).acknowledged k ≡ P.acknowledged k
  acks_other k e = at_other i x P.acknowledged k e

  waits_same : (confirmed i x P).waiting i ≡ drop (x - P.acknowledged i) (P.waiting i)
  waits_same = at_same i (drop (x - P.acknowledged i) (P.waiting i)) P.waiting

  waits_other : (k : ℕ) → (k ≡ i → ⊥) → (confirmed i x P).waiting k ≡ P.waiting k
  waits_other k e = at_other i (drop (x - P.acknowledged i) (P.waiting i)) P.waiting k e

  left : length ((confirmed i x P).waiting i) ≡ length (P.waiting i) - (x - P.acknowledged i)
  left = ap length waits_same ∙ length-drop (x - P.acknowledged i) (P.waiting i)

  last_other : (k : ℕ) → (k ≡ i → ⊥) → last (confirmed i x P) k ≡ last P k
  last_other k e = omega (arith, acks_other k e, ap length (waits_other k e))

-- ---- the places, seen as marks, numbers and datagrams

-- a place that is taken yet is as it was, and has no number up to x if it is the peer's
stays : (m x mark number mark' : ℕ) → (mark ≡ m → number ≤ x → mark' ≡ 0) → ((mark ≡ m → x < number) → mark' ≡ mark) → 0 < mark'
    → (mark ≡ m → x < number) × (mark' ≡ mark)
stays m x mark number mark' gone other t =
    let up : mark ≡ m → x < number = λ e. ⊎_elim (λ l. l) (λ l. absurd (omega (arith, gone e l, t))) (lt_or_ge x number) in
    (up, other up)

module _ (c n i x : ℕ) (P : Post) (mark number mark' number' : ℕ → ℕ) (datagram datagram' : ℕ → List ℕ)
    (H : Holding c mark number datagram n P) (peer : i < n) (new : P.acknowledged i < x)
    (gone : (q : ℕ) → q < c → mark q ≡ suc i → number q ≤ x → mark' q ≡ 0)
    (other : (q : ℕ) → q < c → (mark q ≡ suc i → x < number q) → mark' q ≡ mark q)
    (numbers : (q : ℕ) → q < c → number' q ≡ number q) (datagrams : (q : ℕ) → q < c → datagram' q ≡ datagram q) where
  here_confirmed : (k j : ℕ) → k < n → j < length ((confirmed i x P).waiting k)
      → (q : ℕ) × (q < c) × (mark' q ≡ suc k) × (number' q ≡ suc ((confirmed i x P).acknowledged k + j))
      × (datagram' q ≡ get_or ((confirmed i x P).waiting k) j [])
  here_confirmed k j h f =
      ⊎_elim
      (λ (e : k ≡ i). subst
      (λ (k : ℕ). j < length ((confirmed i x P).waiting k)
      → (q : ℕ) × (q < c) × (mark' q ≡ suc k) × (number' q ≡ suc ((confirmed i x P).acknowledged k + j))
      × (datagram' q ≡ get_or ((confirmed i x P).waiting k) j []))
      (sym e)
      same
      f)
      (λ e.
      let w = waits_other i x P k e in
      let r = H.here k j h (omega (arith, ap length w)) in (
        r.0,
        r.1,
        other r.0 r.1 (λ z. absurd (e (omega (arith, z, r.2)))) ∙ r.2,
        omega (arith, numbers r.0 r.1, r.3, acks_other i x P k e),
        datagrams r.0 r.1 ∙ r.4 ∙ sym (ap (λ (l : List (List ℕ)). get_or l j []) w),
      ))
      (eq_or_ne k i)
    where
      same : j < length ((confirmed i x P).waiting i)
          → (q : ℕ) × (q < c) × (mark' q ≡ suc i) × (number' q ≡ suc ((confirmed i x P).acknowledged i + j))
          × (datagram' q ≡ get_or ((confirmed i x P).waiting i) j [])
      same f =
          let s = x - P.acknowledged i in
          let r = H.here i (s + j) peer (omega (arith, f, left i x P)) in
          let y : number r.0 ≡ suc (x + j) = omega (arith, r.3) in (
            r.0,
            r.1,
            other r.0 r.1 (λ z. omega (arith, y)) ∙ r.2,
            omega (arith, numbers r.0 r.1, y, acks_same i x P),
            datagrams r.0 r.1 ∙ r.4 ∙ sym (ap (λ (l : List (List ℕ)). get_or l j []) (waits_same i x P) ∙ get_or-drop s (P.waiting i) j []),
          )

  only_confirmed : (q k : ℕ) → q < c → mark' q ≡ suc k
      → (k < n) × ((confirmed i x P).acknowledged k < number' q) × (number' q ≤ last (confirmed i x P) k)
  only_confirmed q k h m =
      let s = stays (suc i) x (mark q) (number q) (mark' q) (gone q h) (other q h) (omega (arith, m)) in
      let o = H.only q k h (sym s.1 ∙ m) in
      let y = numbers q h in
      ⊎_elim
      (λ (e : k ≡ i).
      let up : x < number q = s.0 (sym s.1 ∙ m ∙ ap suc e) in
      let old : number q ≤ last P i = (H.only q i h (sym s.1 ∙ m ∙ ap suc e)).2 in
      subst (λ (k : ℕ). (k < n) × ((confirmed i x P).acknowledged k < number' q) × (number' q ≤ last (confirmed i x P) k)) (sym e)
      (peer, omega (arith, y, up, acks_same i x P), omega (arith, y, old, acks_same i x P, left i x P)))
      (λ e. (o.0, omega (arith, y, o.1, acks_other i x P k e), omega (arith, y, o.2, last_other i x P k e)))
      (eq_or_ne k i)

  apart_confirmed : (q r : ℕ) → q < c → r < c → 0 < mark' q → mark' q ≡ mark' r → number' q ≡ number' r → q ≡ r
  apart_confirmed q r h k t e f =
      let a = (stays (suc i) x (mark q) (number q) (mark' q) (gone q h) (other q h) t).1 in
      let b = (stays (suc i) x (mark r) (number r) (mark' r) (gone r k) (other r k) (omega (arith, t, e))).1 in
      H.apart q r h k (omega (arith, t, a)) (sym a ∙ e ∙ b) (sym (numbers q h) ∙ f ∙ numbers r k)

  pub holding_confirmed : Holding c mark' number' datagram' n (confirmed i x P)
  holding_confirmed = record { here = here_confirmed; only = only_confirmed; apart = apart_confirmed }

-- ---- memory

-- only the two words of the peer have changed: how many it has acknowledged, and the last number, which is not below that
pub record Told (counts : List ℕ) (i x : ℕ) (counts' : List ℕ) : Type 0 where
  pub long : length counts' ≡ length counts
  pub rest : (k : ℕ) → (k ≡ i * 3 + 1 → ⊥) → (k ≡ i * 3 + 2 → ⊥) → get_or counts' k 0 ≡ get_or counts k 0
  pub acknowledged : acknowledged_of counts' i ≡ x
  pub kept : x ≤ last_of counts i → last_of counts' i ≡ last_of counts i
  pub raised : last_of counts i < x → last_of counts' i ≡ x

module _ (counts : List ℕ) (i x : ℕ) (within : i < length counts / 3) where
  abbrev one : List ℕ
  one = set counts (i * 3 + 1) x

  one_long : length one ≡ length counts
  one_long = length-set counts (i * 3 + 1) x

  one_ack : acknowledged_of one i ≡ x
  one_ack = get_or-set_same counts (i * 3 + 1) x 0 (omega arith)

  one_last : last_of one i ≡ last_of counts i
  one_last = get_or-set_other counts (i * 3 + 1) (i * 3 + 2) x 0 (λ d. omega arith)

  -- the last number is the greater of what it was and x
  pub told : (y : ℕ) → y ≡ max (last_of one i) x → Told counts i x (set one (i * 3 + 2) y)
  told y e =
      let last : last_of (set one (i * 3 + 2) y) i ≡ y = get_or-set_same one (i * 3 + 2) y 0 (omega (arith, one_long)) in
      record {
        long = length-set one (i * 3 + 2) y ∙ one_long;
        rest = λ k a b. get_or-set_other one (i * 3 + 2) k y 0 b ∙ get_or-set_other counts (i * 3 + 1) k x 0 a;
        acknowledged = get_or-set_other one (i * 3 + 2) (i * 3 + 1) y 0 (λ d. omega arith) ∙ one_ack;
        kept = λ l. omega (arith, last, e, one_last, l);
        raised = λ l. omega (arith, last, e, one_last, l);
      }

module _ (counts places mail : List ℕ) (size n : ℕ) (P : Post) (K : Keeps counts places mail size n P) (i x : ℕ) (peer : i < n)
    (new : P.acknowledged i < x) (counts' places' : List ℕ) (N : Told counts i x counts') (C : Cleared places (i + 1) x places') where
  gone : (q : ℕ) → q < capacity places → mark_at places q ≡ suc i → number_at places q ≤ x → mark_at places' q ≡ 0
  gone q h m l = C.gone q h (m ∙ sym (add-one i)) l

  other : (q : ℕ) → q < capacity places → (mark_at places q ≡ suc i → x < number_at places q) → mark_at places' q ≡ mark_at places q
  other q h u = C.other q h (λ m. u (m ∙ add-one i))

  datagrams : (q : ℕ) → q < capacity places → datagram_at places' mail size q ≡ datagram_at places mail size q
  datagrams q h = ap (part mail (q * size)) (C.lengths q h)

  sent_same : last_of counts' i ≡ last (confirmed i x P) i
  sent_same =
      ⊎_elim
      (λ h. omega (arith, N.raised h, K.sent i peer, acks_same i x P, left i x P))
      (λ h. omega (arith, N.kept h, K.sent i peer, acks_same i x P, left i x P))
      (lt_or_ge (last_of counts i) x)

  pub keeps_confirmed : Keeps counts' places' mail size n (confirmed i x P)
  keeps_confirmed = record {
    wide = K.wide;
    fits_counts = omega (arith, K.fits_counts, N.long);
    fits_mail = subst (λ (l : ℕ). l / 3 * size ≤ length mail) (sym C.long) K.fits_mail;
    received = λ j h. N.rest (j * 3) (λ d. omega arith) (λ d. omega arith) ∙ K.received j h;
    acknowledged = at_all (λ j v. j < n → acknowledged_of counts' j ≡ v) i x P.acknowledged
        (λ h. N.acknowledged)
        (λ j e h. N.rest (j * 3 + 1) (λ d. e (omega arith)) (λ d. omega arith) ∙ K.acknowledged j h);
    sent = λ j h. ⊎_elim
        (λ (e : j ≡ i). subst (λ (j : ℕ). last_of counts' j ≡ last (confirmed i x P) j) (sym e) sent_same)
        (λ e. N.rest (j * 3 + 2) (λ d. omega arith) (λ d. e (omega arith)) ∙ K.sent j h ∙ sym (last_other i x P j e))
        (eq_or_ne j i);
    short = λ q h t.
        let b : q < capacity places = omega (arith, h, C.long) in
        let s = stays (i + 1) x (mark_at places q) (number_at places q) (mark_at places' q) (C.gone q b) (C.other q b) t in
        omega (arith, C.lengths q b, K.short q b (omega (arith, t, s.1)));
    holding = subst (λ (l : ℕ). Holding (l / 3) (mark_at places') (number_at places') (datagram_at places' mail size) n (confirmed i x P)) (sym C.long)
        (holding_confirmed (capacity places) n i x P (mark_at places) (number_at places) (mark_at places') (number_at places') (datagram_at places mail size)
        (datagram_at places' mail size) K.holding peer new gone other C.numbers datagrams);
  }

-- ---- one place alone

module _ {places : List ℕ} {mark x p : ℕ} where
  -- it is freed
  pub freed_at : p < capacity places → mark_at places p ≡ mark → number_at places p ≡ x → Freed places mark x (set places (p * 3) 0)
  freed_at within m l = record {
    long = length-set places (p * 3) 0;
    is = inl (
      p,
      record {
        within = within;
        marked = m;
        numbered = l;
        gone = get_or-set_same places (p * 3) 0 0 (omega (arith, within));
        other = λ q d. get_or-set_other places (p * 3) (q * 3) 0 0 (λ e. d (omega (arith, e)));
      },
    );
    numbers = λ q. get_or-set_other places (p * 3) (q * 3 + 1) 0 0 (λ d. omega arith);
    lengths = λ q. get_or-set_other places (p * 3) (q * 3 + 2) 0 0 (λ d. omega arith);
  }

-- there is none
pub freed_none : {places : List ℕ} {mark x : ℕ} → ((q : ℕ) → q < capacity places → mark_at places q ≡ mark → number_at places q ≡ x → ⊥) → Freed places mark x places
freed_none n = record { long = refl; is = inr (refl, n); numbers = λ q. refl; lengths = λ q. refl }

-- what waits for a peer is above what it has acknowledged
pub ahead_kept : {counts places mail : List ℕ} {size n : ℕ} {P : Post} {i : ℕ} → Keeps counts places mail size n P → i < n
    → Ahead places (i + 1) (acknowledged_of counts i)
ahead_kept {counts} {places} {mail} {size} {n} {P} {i} K h = record {
  above = λ p w m. let o = K.holding.only p i w (m ∙ add-one i) in omega (arith, o.1, K.acknowledged i h);
  apart = λ p q v w m k e. K.holding.apart p q v w (omega (arith, m)) (m ∙ sym k) e;
}

-- if only the next number can wait, that is all that an Ack of it confirms
pub freed_clears : {places : List ℕ} {mark before x : ℕ} {places' : List ℕ} → Ahead places mark before → before + 1 ≡ x → Freed places mark x places'
    → Cleared places mark x places'
freed_clears {places} {mark} {before} {x} {places'} A e F = record {
  long = F.long;
  gone = λ p h m l. gone p h m l F.is;
  other = λ p h u. other p h u F.is;
  numbers = λ p h. F.numbers p;
  lengths = λ p h. F.lengths p;
}
  where
    exact : (p : ℕ) → p < capacity places → mark_at places p ≡ mark → number_at places p ≤ x → number_at places p ≡ x
    exact p h m l = let a = A.above p h m in omega (arith, a, e, l)

    gone : (p : ℕ) → p < capacity places → mark_at places p ≡ mark → number_at places p ≤ x
        → ((q : ℕ) × One places mark x q places') ⊎ ((places' ≡ places) × ((q : ℕ) → q < capacity places → mark_at places q ≡ mark → number_at places q ≡ x → ⊥))
        → mark_at places' p ≡ 0
    gone p h m l (inl (q, O)) =
        let d : p ≡ q = A.apart p q h O.within m O.marked (exact p h m l ∙ sym O.numbered) in
        subst (λ (j : ℕ). mark_at places' j ≡ 0) (sym d) O.gone
    gone p h m l (inr (same, none)) = absurd (none p h m (exact p h m l))

    other : (p : ℕ) → p < capacity places → (mark_at places p ≡ mark → x < number_at places p)
        → ((q : ℕ) × One places mark x q places') ⊎ ((places' ≡ places) × ((q : ℕ) → q < capacity places → mark_at places q ≡ mark → number_at places q ≡ x → ⊥))
        → mark_at places' p ≡ mark_at places p
    other p h u (inl (q, O)) = ⊎_elim
        (λ (d : p ≡ q).
        let m : mark_at places p ≡ mark = ap (mark_at places) d ∙ O.marked in
        let k : number_at places p ≡ x = ap (number_at places) d ∙ O.numbered in
        absurd (omega (arith, u m, k)))
        (λ d. O.other p d)
        (eq_or_ne p q)
    other p h u (inr (same, none)) = ap (λ (l : List ℕ). mark_at l p) same

-- the first p places are looked at, and none is the one
pub record Sought (places : List ℕ) (mark x p : ℕ) (places' : List ℕ) : Type 0 where
  pub long : length places' ≡ length places
  pub same : places' ≡ places
  pub none : (q : ℕ) → q < p → mark_at places' q ≡ mark → number_at places' q ≡ x → ⊥

pub sought_none : (places : List ℕ) (mark x : ℕ) → Sought places mark x 0 places
sought_none places mark x = record { long = refl; same = refl; none = λ q h. absurd (omega (arith, h)) }

module _ {places : List ℕ} {mark x p : ℕ} {places' : List ℕ} (S : Sought places mark x p places') where
  -- nor is the next
  pub sought_next : (mark_at places' p ≡ mark → number_at places' p ≡ x → ⊥) → Sought places mark x (p + 1) places'
  sought_next u = record {
    long = S.long;
    same = S.same;
    none = λ q h m e. ⊎_elim
        (λ l. S.none q l m e)
        (λ l.
        let d : q ≡ p = omega (arith, h, l) in
        u (ap (mark_at places') (sym d) ∙ m) (ap (number_at places') (sym d) ∙ e))
        (lt_or_ge q p);
  }

  -- the next is
  pub sought_found : p < capacity places' → mark_at places' p ≡ mark → number_at places' p ≡ x → Freed places mark x (set places' (p * 3) 0)
  sought_found h m e = subst (λ (l : List ℕ). Freed l mark x (set places' (p * 3) 0)) S.same (freed_at h m e)

  -- there are no more
  pub sought_all : capacity places' ≤ p → Freed places mark x places'
  sought_all l = subst (λ (d : List ℕ). Freed d mark x places') S.same (freed_none (λ q h. S.none q (omega (arith, h, l))))
