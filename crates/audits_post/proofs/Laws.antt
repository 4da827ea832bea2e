-- What is known of peers, made from the words and places that keep it; and the words and places that keep it.
-- Assumes nothing.
use mathlib.Core.Path.{◌≡◌, refl, sym, ap, ◌∙◌, subst}
use mathlib.Core.Logic.{⊎_elim}
use mathlib.Core.Bool.{Bool, true, false, cond, ◌&&◌, and-eq-true_iff, true≢false, false≢true}
use mathlib.Core.List.{List, [], ◌∷◌}
use Prim.Native.Nat.{ℕ, zero, suc, ◌+◌, ◌-◌, ◌*◌, ◌/◌, ◌≤◌, ◌<◌}
use native.Mathlib.Nat.{le-div_iff_mul-le}
use native.Mathlib.Omega.{arith}
use lib.ListN.{length, get_or}
use lib.Dec.{eqb}
use borrow.Author.Tests.{eqb-true, eqb-false, eq-eqb}
use Rattle.columns.proofs.Cases.{lt_or_ge}
use Rattle.std.specs.Prelude.{Option, Some, None, is_some, not}
use Rattle.std.specs.Option.{option_eq}
use Rattle.delivery.specs.Post.{Post}
use Rattle.delivery.specs.Memory.{Keeps, received_of, acknowledged_of, last_of, capacity, mark_at, number_at, length_at, datagram_at}
use Rattle.audits_post.specs.Answers.{Valid}
use Rattle.audits_post.specs.Inner.{Tells, Stands, First, Fits, AllFit, Told, AllTold}

-- ---- the last of c places with a mark and a number

abbrev stands : List ℕ → ℕ → ℕ → ℕ → Bool
stands places mark x p = eqb (mark_at places p) mark && eqb (number_at places p) x

abbrev seek : List ℕ → ℕ → ℕ → ℕ → ℕ
seek places mark x zero = 0
seek places mark x (suc c) = cond (stands places mark x c) c (seek places mark x c)

seek_finds : (places : List ℕ) (mark x c p : ℕ) → p < c → Stands places mark x p
    → (seek places mark x c < c) × Stands places mark x (seek places mark x c)
seek_finds places mark x zero p h s = absurd (omega arith)
seek_finds places mark x (suc c) p h s = go (stands places mark x c) refl (seek_finds places mark x c p)
  where
    go : (t : Bool) → stands places mark x c ≡ t
        → (p < c → Stands places mark x p → (seek places mark x c < c) × Stands places mark x (seek places mark x c))
        → (cond t c (seek places mark x c) < suc c) × Stands places mark x (cond t c (seek places mark x c))
    go true e f =
        let u = (and-eq-true_iff (eqb (mark_at places c) mark) (eqb (number_at places c) x)).0 e in
        (omega arith, (eqb-true (mark_at places c) mark u.0, eqb-true (number_at places c) x u.1))
    go false e f =
        ⊎_elim
        (λ q. let r = f q s in (omega (arith, r.0), r.1))
        (λ q.
        let z : p ≡ c = omega arith in
        let w : Stands places mark x c = subst (λ (y : ℕ). Stands places mark x y) z s in
        let t : stands places mark x c ≡ true =
        (and-eq-true_iff (eqb (mark_at places c) mark) (eqb (number_at places c) x)).1
        (eq-eqb (mark_at places c) mark w.0, eq-eqb (number_at places c) x w.1) in
        absurd (false≢true (sym e ∙ t)))
        (lt_or_ge p c)

-- ---- a list by its places

abbrev row : (ℕ → List ℕ) → ℕ → List (List ℕ)
row g zero = []
row g (suc m) = g 0 ∷ row (λ j. g (suc j)) m

length_row : (g : ℕ → List ℕ) (m : ℕ) → length (row g m) ≡ m
length_row g zero = refl
length_row g (suc m) = ap suc (length_row (λ j. g (suc j)) m)

get_or_row : (g : ℕ → List ℕ) (m j : ℕ) → j < m → get_or (row g m) j [] ≡ g j
get_or_row g zero j h = absurd (omega arith)
get_or_row g (suc m) zero h = refl
get_or_row g (suc m) (suc j) h = get_or_row (λ j. g (suc j)) m j (omega arith)

-- ---- what the words and places say

-- the j-th datagram that waits for peer i
abbrev waits : (counts places mail : List ℕ) → ℕ → ℕ → ℕ → List ℕ
waits counts places mail size i j =
    datagram_at places mail size (seek places (suc i) (suc (acknowledged_of counts i + j)) (capacity places))

abbrev post_of : (counts places mail : List ℕ) → ℕ → Post
post_of counts places mail size = record {
  received = received_of counts;
  acknowledged = acknowledged_of counts;
  waiting = λ i. row (waits counts places mail size i) (last_of counts i - acknowledged_of counts i);
}

module _ (counts places mail : List ℕ) (size n : ℕ) (wide : 0 < size) (words : n * 3 ≤ length counts)
    (room : capacity places * size ≤ length mail) (F : AllFit counts places size n) (T : AllTold counts places n) where
  many : (i : ℕ) → length ((post_of counts places mail size).waiting i) ≡ last_of counts i - acknowledged_of counts i
  many i = length_row (waits counts places mail size i) (last_of counts i - acknowledged_of counts i)

  here : (i j : ℕ) → i < n → j < length ((post_of counts places mail size).waiting i)
      → (p : ℕ) × (p < capacity places) × (mark_at places p ≡ suc i) × (number_at places p ≡ suc (acknowledged_of counts i + j))
      × (datagram_at places mail size p ≡ get_or ((post_of counts places mail size).waiting i) j [])
  here i j h q =
      let b : j < last_of counts i - acknowledged_of counts i = omega (arith, q, many i) in
      let w = (T i h).all (suc (acknowledged_of counts i + j)) (omega arith) (omega (arith, b)) in
      let s = seek_finds places (suc i) (suc (acknowledged_of counts i + j)) (capacity places) w.0 w.1 w.2 in (
        seek places (suc i) (suc (acknowledged_of counts i + j)) (capacity places),
        s.0,
        s.1.0,
        s.1.1,
        sym (get_or_row (waits counts places mail size i) (last_of counts i - acknowledged_of counts i) j b),
      )

  apart : (p q : ℕ) → p < capacity places → q < capacity places → 0 < mark_at places p → mark_at places p ≡ mark_at places q
      → number_at places p ≡ number_at places q → p ≡ q
  apart p q hp hq u m x =
      let i : ℕ = mark_at places p - 1 in
      let mp : mark_at places p ≡ suc i = omega arith in
      let mq : mark_at places q ≡ suc i = omega (arith, m, mp) in
      ⊎_elim
      (λ s. absurd ((F q hq).new i mq p s (mp, x)))
      (λ s. ⊎_elim (λ t. absurd ((F p hp).new i mp q t (mq, sym x))) (λ t. omega arith) (lt_or_ge q p))
      (lt_or_ge p q)

  made : Keeps counts places mail size n (post_of counts places mail size)
  made = record {
    wide = wide;
    fits_counts = words;
    fits_mail = room;
    received = λ i h. refl;
    acknowledged = λ i h. refl;
    sent = λ i h. omega (arith, many i, (T i h).ordered);
    short = λ p h u. let m : mark_at places p ≡ suc (mark_at places p - 1) = omega arith in (F p h).short (mark_at places p - 1) m;
    holding = record {
      here = here;
      only = λ p i h m.
          let b = (F p h).peer i m in
          (b, (F p h).above i m, omega (arith, (F p h).upto i m, many i, (T i b).ordered));
      apart = apart;
    };
  }

-- ---- what memory that keeps something says

module _ {counts places mail : List ℕ} {size n : ℕ} {P : Post} (K : Keeps counts places mail size n P) where
  pub kept_fit : AllFit counts places size n
  kept_fit p h = record {
    peer = λ i m. (K.holding.only p i h m).0;
    short = λ i m. K.short p h (omega (arith, m));
    above = λ i m. let o = K.holding.only p i h m in omega (arith, o.1, K.acknowledged i o.0);
    upto = λ i m. let o = K.holding.only p i h m in omega (arith, o.2, K.sent i o.0);
    new = λ i m q b s. omega (arith, b, K.holding.apart q p (omega arith) h (omega (arith, s.0)) (s.0 ∙ sym m) s.1);
  }

  pub kept_told : AllTold counts places n
  kept_told i h = record {
    ordered = omega (arith, K.sent i h, K.acknowledged i h);
    all = λ x a u.
        let j : ℕ = x - suc (P.acknowledged i) in
        let q : j < length (P.waiting i) = omega (arith, a, u, K.sent i h, K.acknowledged i h) in
        let w = K.holding.here i j h q in
        (w.0, w.1, (w.2, omega (arith, w.3, a, K.acknowledged i h)));
  }

-- ---- the answers

module _ {counts places mail : List ℕ} {size n : ℕ} where
  pub refuted : ((P : Post) → Keeps counts places mail size n P → ⊥) → Valid counts places mail size n false
  refuted h = record { yes = λ e. absurd (false≢true e); no = λ e. h }

  -- there are too few bytes for all places
  pub few_bytes : length mail / size < capacity places → (P : Post) → Keeps counts places mail size n P → ⊥
  few_bytes h P K = omega (arith, h, (le-div_iff_mul-le K.wide).1 K.fits_mail)

  pub posted : {r : Bool} → 0 < size → n ≤ length counts / 3 → capacity places ≤ length mail / size → AllFit counts places size n
      → Tells (AllTold counts places n) r → Valid counts places mail size n r
  posted w c b F T = record {
    yes = λ e. (post_of counts places mail size, made counts places mail size n w (omega arith) ((le-div_iff_mul-le w).0 b) F (T.yes e));
    no = λ e P K. T.no e (kept_told K);
  }

pub held : {A : Type 0} → A → Tells A true
held a = record { yes = λ e. a; no = λ e. absurd (true≢false e) }

pub failed : {A : Type 0} → (A → ⊥) → Tells A false
failed h = record { yes = λ e. absurd (false≢true e); no = λ e. h }

-- ---- one place

-- the peer of a place that is not free
peer_is : (m : ℕ) → (m ≡ 0 → ⊥) → m ≡ suc (m - 1)
peer_is m u = omega (arith, u)

module _ {counts places : List ℕ} {size n p : ℕ} where
  pub free_fits : mark_at places p ≡ 0 → Fits counts places size n p
  free_fits z = record {
    peer = λ i m. absurd (omega (arith, m, z));
    short = λ i m. absurd (omega (arith, m, z));
    above = λ i m. absurd (omega (arith, m, z));
    upto = λ i m. absurd (omega (arith, m, z));
    new = λ i m. absurd (omega (arith, m, z));
  }

  pub no_peer : (mark_at places p ≡ 0 → ⊥) → n ≤ mark_at places p - 1 → Fits counts places size n p → ⊥
  no_peer u h F = omega (arith, h, F.peer (mark_at places p - 1) (peer_is (mark_at places p) u))

  pub too_long : (mark_at places p ≡ 0 → ⊥) → size < length_at places p → Fits counts places size n p → ⊥
  too_long u h F = omega (arith, h, F.short (mark_at places p - 1) (peer_is (mark_at places p) u))

  pub too_low : (mark_at places p ≡ 0 → ⊥) → number_at places p ≤ acknowledged_of counts (mark_at places p - 1) → Fits counts places size n p → ⊥
  too_low u h F = omega (arith, h, F.above (mark_at places p - 1) (peer_is (mark_at places p) u))

  pub too_high : (mark_at places p ≡ 0 → ⊥) → last_of counts (mark_at places p - 1) < number_at places p → Fits counts places size n p → ⊥
  too_high u h F = omega (arith, h, F.upto (mark_at places p - 1) (peer_is (mark_at places p) u))

  pub first_fits : (r : Option ℕ) → p < capacity places → (mark_at places p ≡ 0 → ⊥) → mark_at places p - 1 < n → length_at places p ≤ size
      → acknowledged_of counts (mark_at places p - 1) < number_at places p → number_at places p ≤ last_of counts (mark_at places p - 1)
      → First places (mark_at places p) (number_at places p) r → Tells (Fits counts places size n p) (option_eq eqb r (Some p))
  first_fits (Some r) b u h s a l F = record {
    yes = λ e. record {
      peer = λ i m. omega (arith, h, m);
      short = λ i m. s;
      above = λ i m. omega (arith, a, ap (acknowledged_of counts) (of i m));
      upto = λ i m. omega (arith, l, ap (last_of counts) (of i m));
      new = λ i m q d t. F.is.2 q (omega (arith, d, eqb-true r p e)) (t.0 ∙ sym m, t.1);
    };
    no = λ e G.
        ⊎_elim
        (λ d. F.is.2 p d (refl, refl))
        (λ d.
        let c : r < p = omega (arith, d, eqb-false r p e) in
        G.new (mark_at places p - 1) (peer_is (mark_at places p) u) r c (F.is.1.0 ∙ peer_is (mark_at places p) u, F.is.1.1))
        (lt_or_ge p r);
  }
    where
      of : (i : ℕ) → mark_at places p ≡ suc i → mark_at places p - 1 ≡ i
      of i m = omega (arith, m)
  first_fits None b u h s a l F = failed (λ G. F.is p b (refl, refl))

-- ---- one peer

module _ {places : List ℕ} {i x : ℕ} where
  -- the next number has no place
  pub lacking : {counts : List ℕ} (r : Option ℕ) (b : Bool) → is_some r ≡ not b → b ≡ true → First places (i + 1) (x + 1) r
      → acknowledged_of counts i ≤ x → x < last_of counts i → Told counts places i → ⊥
  lacking (Some q) true e t F a l T = true≢false e
  lacking (Some q) false e t F a l T = false≢true t
  lacking None b e t F a l T =
      let w = T.all (x + 1) (omega arith) (omega arith) in
      F.is w.0 w.1 (omega (arith, w.2.0), w.2.1)

  -- .. or it has one
  pub found : (counts : List ℕ) (r : Option ℕ) (b : Bool) → is_some r ≡ not b → b ≡ false → First places (i + 1) (x + 1) r
      → ((y : ℕ) → acknowledged_of counts i < y → y ≤ x → (p : ℕ) × (p < capacity places) × Stands places (suc i) y p)
      → (y : ℕ) → acknowledged_of counts i < y → y ≤ x + 1 → (p : ℕ) × (p < capacity places) × Stands places (suc i) y p
  found counts None true e t F h y a c = absurd (true≢false t)
  found counts None false e t F h y a c = absurd (false≢true e)
  found counts (Some q) b e t F h y a c =
      ⊎_elim (λ d. h y a (omega arith)) (λ d. (q, F.is.0, (omega (arith, F.is.1.0), omega (arith, F.is.1.1)))) (lt_or_ge y (x + 1))
