-- The laws of a message that is let wait in a free place: what the places hold, what memory keeps, and how a part of the mail is written.
-- Assumes nothing.
use mathlib.Core.Path.{◌≡◌, sym, ap, ap₂, ◌∙◌, subst}
use mathlib.Core.Logic.{⊎_elim}
use mathlib.Core.List.{List, [], ◌∷◌, ◌++◌, append_assoc}
use Prim.Native.Nat.{ℕ, suc, ◌+◌, ◌*◌, ◌/◌, ◌≤◌, ◌<◌}
use native.Mathlib.Nat.{suc-mul, mul-le-mul_right, zero-add}
use native.Mathlib.Numerals.{add-one}
use native.Mathlib.Omega.{arith}
use lib.ListN.{length, take, drop, get_or, set, length-set, length-append, length-drop, take-append-drop, get_or-append}
use lib.Seq.{get_or-set_same, get_or-set_other, get_or-append_seam, length-take-le, drop-append-le, drop-drop}
use borrow.Rule.Slice.PartMut.{put_mid, mid_of}
use Rattle.columns.proofs.Cases.{lt_or_ge, eq_or_ne}
use Rattle.memory.specs.Bytes.{part, placed}
use Rattle.memory.proofs.Parts.{length_placed, placed_in, placed_before, placed_after}
use Rattle.delivery.specs.Post.{Post, last, next, posted}
use Rattle.delivery.specs.Memory.{Holding, Keeps, Open, Standing, last_of, capacity, mark_at, number_at, length_at, datagram_at}
use Rattle.delivery.proofs.Laws.{at_same, at_other}

-- ---- one more message waits

module _ (i : ℕ) (bytes : List ℕ) (P : Post) where
  waits_same : (posted i bytes P).waiting i ≡ P.waiting i ++ (bytes ∷ [])
  waits_same = at_same i (P.waiting i ++ (bytes ∷ [])) P.waiting

  waits_other : (k : ℕ) → (k ≡ i → ⊥) → (posted i bytes P).waiting k ≡ P.waiting k
  waits_other k e = at_other i (P.waiting i ++ (bytes ∷ [])) P.waiting k e

  one_more : length ((posted i bytes P).waiting i) ≡ length (P.waiting i) + 1
  one_more = ap length waits_same ∙ length-append (P.waiting i) (bytes ∷ [])

-- ---- the places, seen as marks, numbers and datagrams

module _ (c n i p : ℕ) (bytes : List ℕ) (P : Post) (mark number mark' number' : ℕ → ℕ) (datagram datagram' : ℕ → List ℕ)
    (H : Holding c mark number datagram n P) (peer : i < n) (within : p < c) (free : mark p ≡ 0)
    (marks : (q : ℕ) → (q ≡ p → ⊥) → mark' q ≡ mark q) (numbers : (q : ℕ) → (q ≡ p → ⊥) → number' q ≡ number q)
    (datagrams : (q : ℕ) → q < c → 0 < mark q → (q ≡ p → ⊥) → datagram' q ≡ datagram q)
    (m : mark' p ≡ suc i) (x : number' p ≡ next P i) (d : datagram' p ≡ bytes) where
  -- a place that holds a message is not the free one, so it holds it still
  still : (k y : ℕ) (b : List ℕ) → (q : ℕ) × (q < c) × (mark q ≡ suc k) × (number q ≡ y) × (datagram q ≡ b)
      → (q : ℕ) × (q < c) × (mark' q ≡ suc k) × (number' q ≡ y) × (datagram' q ≡ b)
  still k y b (q, h, e, f, g) =
      let ne : q ≡ p → ⊥ = λ (z : q ≡ p). omega (arith, ap mark z) in
      (q, h, marks q ne ∙ e, numbers q ne ∙ f, datagrams q h (omega arith) ne ∙ g)

  grows : (k : ℕ) → length (P.waiting k) ≤ length ((posted i bytes P).waiting k)
  grows k =
      ⊎_elim
      (λ (e : k ≡ i). subst (λ (a : ℕ). length (P.waiting a) ≤ length ((posted i bytes P).waiting a)) (sym e) (omega (arith, one_more i bytes P)))
      (λ e. omega (arith, ap length (waits_other i bytes P k e)))
      (eq_or_ne k i)

  here_same : (j : ℕ) → j < length ((posted i bytes P).waiting i)
      → (q : ℕ) × (q < c) × (mark' q ≡ suc i) × (number' q ≡ suc (P.acknowledged i + j)) × (datagram' q ≡ get_or ((posted i bytes P).waiting i) j [])
  here_same j h =
      ⊎_elim
      (λ f. still i _ _ (
      let r = H.here i j peer f in
      (r.0, r.1, r.2, r.3, r.4 ∙ sym (ap (λ (l : List (List ℕ)). get_or l j []) (waits_same i bytes P) ∙ get_or-append (P.waiting i) (bytes ∷ []) [] j f))))
      (λ f.
      let e : length (P.waiting i) ≡ j = omega (arith, one_more i bytes P) in
      let b : get_or ((posted i bytes P).waiting i) j [] ≡ bytes =
      ap₂ (λ (l : List (List ℕ)) (a : ℕ). get_or l a []) (waits_same i bytes P) (sym e) ∙ get_or-append_seam (P.waiting i) bytes [] [] in
      (p, within, m, x ∙ ap (λ (a : ℕ). suc (P.acknowledged i + a)) e, d ∙ sym b))
      (lt_or_ge j (length (P.waiting i)))

  here_posted : (k j : ℕ) → k < n → j < length ((posted i bytes P).waiting k)
      → (q : ℕ) × (q < c) × (mark' q ≡ suc k) × (number' q ≡ suc (P.acknowledged k + j)) × (datagram' q ≡ get_or ((posted i bytes P).waiting k) j [])
  here_posted k j h f =
      ⊎_elim
      (λ (e : k ≡ i). subst
      (λ (k : ℕ). j < length ((posted i bytes P).waiting k)
      → (q : ℕ) × (q < c) × (mark' q ≡ suc k) × (number' q ≡ suc (P.acknowledged k + j)) × (datagram' q ≡ get_or ((posted i bytes P).waiting k) j []))
      (sym e)
      (here_same j)
      f)
      (λ e.
      let w = waits_other i bytes P k e in
      let r = H.here k j h (omega (arith, ap length w)) in
      still k _ _ (r.0, r.1, r.2, r.3, r.4 ∙ sym (ap (λ (l : List (List ℕ)). get_or l j []) w)))
      (eq_or_ne k i)

  only_posted : (q k : ℕ) → q < c → mark' q ≡ suc k → (k < n) × (P.acknowledged k < number' q) × (number' q ≤ last (posted i bytes P) k)
  only_posted q k h e =
      ⊎_elim
      (λ (z : q ≡ p).
      let s : i ≡ k = omega (arith, ap mark' z, m) in
      let y : number' q ≡ next P i = ap number' z ∙ x in
      subst (λ (k : ℕ). (k < n) × (P.acknowledged k < number' q) × (number' q ≤ last (posted i bytes P) k)) s (peer, omega arith, omega (arith, one_more i bytes P)))
      (λ z.
      let o = H.only q k h (sym (marks q z) ∙ e) in
      (o.0, omega (arith, numbers q z, o.1), omega (arith, numbers q z, o.2, grows k)))
      (eq_or_ne q p)

  -- the number is new to the peer
  fresh : (q : ℕ) → q < c → mark' p ≡ mark' q → number' p ≡ number' q → p ≡ q
  fresh q h e f =
      ⊎_elim
      (λ (z : q ≡ p). sym z)
      (λ z.
      let o = H.only q i h (sym (marks q z) ∙ sym e ∙ m) in
      absurd (omega (arith, o.2, numbers q z, x)))
      (eq_or_ne q p)

  apart_posted : (q r : ℕ) → q < c → r < c → 0 < mark' q → mark' q ≡ mark' r → number' q ≡ number' r → q ≡ r
  apart_posted q r h k o e f =
      ⊎_elim
      (λ (z : q ≡ p). z ∙ fresh r k (sym (ap mark' z) ∙ e) (sym (ap number' z) ∙ f))
      (λ z. ⊎_elim
      (λ (y : r ≡ p). sym (y ∙ fresh q h (sym (ap mark' y) ∙ sym e) (sym (ap number' y) ∙ sym f)))
      (λ y. H.apart q r h k (omega (arith, marks q z)) (sym (marks q z) ∙ e ∙ marks r y) (sym (numbers q z) ∙ f ∙ numbers r y))
      (eq_or_ne r p))
      (eq_or_ne q p)

  pub holding_posted : Holding c mark' number' datagram' n (posted i bytes P)
  holding_posted = record { here = here_posted; only = only_posted; apart = apart_posted }

-- ---- memory

-- place p of c places of w bytes lies within the bytes that they take
pub place_fits : (p c w l : ℕ) → p < c → c * w ≤ l → p * w + w ≤ l
place_fits p c w l h q = omega (arith, suc-mul p w, mul-le-mul_right {m = suc p} {n = c} w h, q)

-- the words of a place after all three are written
abbrev taken : List ℕ → ℕ → ℕ → ℕ → ℕ → List ℕ
taken places p m x len = set (set (set places (p * 3) m) (p * 3 + 1) x) (p * 3 + 2) len

module _ (places : List ℕ) (p m x len : ℕ) where
  abbrev one : List ℕ
  one = set places (p * 3) m

  abbrev two : List ℕ
  two = set one (p * 3 + 1) x

  taken_long : length (taken places p m x len) ≡ length places
  taken_long = length-set two (p * 3 + 2) len ∙ length-set one (p * 3 + 1) x ∙ length-set places (p * 3) m

  taken_other : (k : ℕ) → (k ≡ p * 3 → ⊥) → (k ≡ p * 3 + 1 → ⊥) → (k ≡ p * 3 + 2 → ⊥) → get_or (taken places p m x len) k 0 ≡ get_or places k 0
  taken_other k a b c = get_or-set_other two (p * 3 + 2) k len 0 c ∙ get_or-set_other one (p * 3 + 1) k x 0 b ∙ get_or-set_other places (p * 3) k m 0 a

  taken_mark : p < capacity places → mark_at (taken places p m x len) p ≡ m
  taken_mark h =
      get_or-set_other two (p * 3 + 2) (p * 3) len 0 (λ d. omega arith)
      ∙ get_or-set_other one (p * 3 + 1) (p * 3) x 0 (λ d. omega arith)
      ∙ get_or-set_same places (p * 3) m 0 (omega arith)

  taken_number : p < capacity places → number_at (taken places p m x len) p ≡ x
  taken_number h =
      get_or-set_other two (p * 3 + 2) (p * 3 + 1) len 0 (λ d. omega arith)
      ∙ get_or-set_same one (p * 3 + 1) x 0 (omega (arith, length-set places (p * 3) m))

  taken_length : p < capacity places → length_at (taken places p m x len) p ≡ len
  taken_length h = get_or-set_same two (p * 3 + 2) len 0 (omega (arith, length-set one (p * 3 + 1) x, length-set places (p * 3) m))

module _ (counts places mail : List ℕ) (size n : ℕ) (P : Post) (K : Keeps counts places mail size n P) (i p x len : ℕ) (bytes : List ℕ)
    (peer : i < n) (O : Open places p) (new : x ≡ next P i) (long : len ≡ length bytes) (short : len ≤ size) where
  abbrev counts' : List ℕ
  counts' = set counts (i * 3 + 2) x

  abbrev places' : List ℕ
  places' = taken places p (i + 1) x len

  abbrev mail' : List ℕ
  mail' = placed mail (p * size) bytes

  fits : p * size + length bytes ≤ length mail
  fits = omega (arith, place_fits p (capacity places) size (length mail) O.within K.fits_mail, long, short)

  -- another place's words are as they were, and so is its datagram: places are a stride apart
  mark_other : (q : ℕ) → (q ≡ p → ⊥) → mark_at places' q ≡ mark_at places q
  mark_other q e = taken_other places p (i + 1) x len (q * 3) (λ d. e (omega arith)) (λ d. omega arith) (λ d. omega arith)

  number_other : (q : ℕ) → (q ≡ p → ⊥) → number_at places' q ≡ number_at places q
  number_other q e = taken_other places p (i + 1) x len (q * 3 + 1) (λ d. omega arith) (λ d. e (omega arith)) (λ d. omega arith)

  length_other : (q : ℕ) → (q ≡ p → ⊥) → length_at places' q ≡ length_at places q
  length_other q e = taken_other places p (i + 1) x len (q * 3 + 2) (λ d. omega arith) (λ d. omega arith) (λ d. e (omega arith))

  datagram_other : (q : ℕ) → q < capacity places → 0 < mark_at places q → (q ≡ p → ⊥) → datagram_at places' mail' size q ≡ datagram_at places mail size q
  datagram_other q h t e =
      ap (part mail' (q * size)) (length_other q e)
      ∙ ⊎_elim
      (λ f. placed_before mail (p * size) bytes fits (q * size) (length_at places q) (omega (arith, place_fits q p size (p * size) f (omega arith), K.short q h t)))
      (λ f.
      let g : p < q = omega (arith, e) in
      placed_after mail (p * size) bytes fits (q * size) (length_at places q) (omega (arith, place_fits p q size (q * size) g (omega arith), long, short)))
      (lt_or_ge q p)

  datagram_same : datagram_at places' mail' size p ≡ bytes
  datagram_same = ap (part mail' (p * size)) (taken_length places p (i + 1) x len O.within ∙ long) ∙ placed_in mail (p * size) bytes fits

  pub keeps_posted : Keeps counts' places' mail' size n (posted i bytes P)
  keeps_posted = record {
    wide = K.wide;
    fits_counts = omega (arith, K.fits_counts, length-set counts (i * 3 + 2) x);
    fits_mail =
        subst (λ (l : ℕ). l / 3 * size ≤ length mail') (sym (taken_long places p (i + 1) x len)) (omega (arith, K.fits_mail, length_placed mail (p * size) bytes fits));
    received = λ j h. get_or-set_other counts (i * 3 + 2) (j * 3) x 0 (λ d. omega arith) ∙ K.received j h;
    acknowledged = λ j h. get_or-set_other counts (i * 3 + 2) (j * 3 + 1) x 0 (λ d. omega arith) ∙ K.acknowledged j h;
    sent = λ j h. ⊎_elim
        (λ (e : j ≡ i). subst (λ (j : ℕ). last_of counts' j ≡ last (posted i bytes P) j) (sym e)
        (get_or-set_same counts (i * 3 + 2) x 0 (omega (arith, K.fits_counts)) ∙ omega (arith, new, one_more i bytes P)))
        (λ e. get_or-set_other counts (i * 3 + 2) (j * 3 + 2) x 0 (λ d. e (omega arith)) ∙ K.sent j h
        ∙ ap (λ (l : List (List ℕ)). P.acknowledged j + length l) (sym (waits_other i bytes P j e)))
        (eq_or_ne j i);
    short = λ q h t. ⊎_elim
        (λ (e : q ≡ p). subst (λ (q : ℕ). length_at places' q ≤ size) (sym e) (omega (arith, taken_length places p (i + 1) x len O.within)))
        (λ e. omega (arith, length_other q e, K.short q (omega (arith, h, taken_long places p (i + 1) x len)) (omega (arith, t, mark_other q e))))
        (eq_or_ne q p);
    holding = subst (λ (l : ℕ). Holding (l / 3) (mark_at places') (number_at places') (datagram_at places' mail' size) n (posted i bytes P)) (sym (taken_long places p (i + 1) x len))
        (holding_posted (capacity places) n i p bytes P (mark_at places) (number_at places) (mark_at places') (number_at places') (datagram_at places mail size)
        (datagram_at places' mail' size) K.holding peer O.within O.free mark_other number_other datagram_other
        (taken_mark places p (i + 1) x len O.within ∙ add-one i) (taken_number places p (i + 1) x len O.within ∙ new) datagram_same);
  }

  pub standing_posted : Standing places' mail' size p i x bytes
  standing_posted = record {
    within = omega (arith, O.within, taken_long places p (i + 1) x len);
    mark = taken_mark places p (i + 1) x len O.within ∙ add-one i;
    number = taken_number places p (i + 1) x len O.within;
    is = datagram_same;
  }

-- ---- the mail

-- a writer that is lent k bytes of the mail from a on, and writes from their start on, has written there
pub mid_placed : (a k : ℕ) (mail bytes lent : List ℕ) → a + k ≤ length mail → length bytes ≤ k → lent ≡ placed (mid_of a k mail) 0 bytes → put_mid a k mail lent ≡ placed mail a bytes
mid_placed a k mail bytes lent h q e =
    let l : length bytes ≤ length (mid_of a k mail) = omega (arith, length-take-le k (drop a mail) (omega (arith, length-drop a mail))) in
    let r : drop (length bytes) (mid_of a k mail) ++ drop k (drop a mail) ≡ drop (a + length bytes) mail =
    sym (drop-append-le (length bytes) (mid_of a k mail) (drop k (drop a mail)) l)
    ∙ ap (drop (length bytes)) (take-append-drop k (drop a mail))
    ∙ drop-drop (length bytes) a mail in
    rw (e, zero-add (length bytes), append_assoc bytes (drop (length bytes) (mid_of a k mail)) (drop k (drop a mail)), r) (sym (append_assoc (take a mail) bytes (drop (a + length bytes) mail)))
