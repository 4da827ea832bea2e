-- The laws of columns: what a move within the column makes of it, and what stands at each place after an insertion and after a cut.
-- Assumes nothing.
use mathlib.Core.Path.{◌≡◌, sym, ap, ◌∙◌}
use mathlib.Core.Logic.{⊎_elim}
use mathlib.Core.List.{List, ◌∷◌, ◌++◌, append_assoc}
use Prim.Native.Nat.{ℕ, zero, suc, ◌+◌, ◌-◌, ◌≤◌, ◌<◌}
use native.Mathlib.Omega.{arith}
use native.Mathlib.Numerals.{add-one}
use Rattle.columns.proofs.Cases.{lt_or_ge}
use lib.ListN.{length, take, drop, get_or, set, length-append, length-drop, get_or-append, take-append-drop}
use Rattle.std.specs.List.{copy_within}
use Rattle.std.proofs.lemmas.List.{drop-take}
use lib.Seq.{slice, set_split, take-append-le, take-take, drop_at, length-take-le, length-slice, get_or-append-add, get_or-take, get_or-drop}
use Rattle.columns.specs.Column.{inserted, without, Rising, Splits}

-- ---- insertion

-- a move within the column takes the part that it names
moved_part : (c : List ℕ) (i n : ℕ) → i ≤ n → take (n - i) (drop i c) ≡ slice i n c
moved_part c i n h = let e : i + (n - i) ≡ n = omega arith in sym (drop-take i (n - i) c) ∙ ap (λ (k : ℕ). drop i (take k c)) e

-- those from `at` up to n moved up by one, and v stored at `at`
pub insert_moved : (c : List ℕ) (n at v : ℕ) → at ≤ n → n < length c → set (copy_within c at n (at + 1)) at v ≡ inserted c n at v
insert_moved c n at v h l =
    let p : List ℕ = take (at + 1) c in
    let q : List ℕ = slice at n c ++ drop (at + 1 + (n - at)) c in
    let pl : length p ≡ suc at = omega (arith, length-take-le (at + 1) c (omega arith)) in
    let ql : at ≤ length p = omega arith in
    let il : at < length (p ++ q) = omega (arith, length-append p q) in
    let e : at + 1 + (n - at) ≡ suc n = omega arith in
    let t : take at (p ++ q) ≡ take at c = take-append-le at p q ql ∙ take-take at (at + 1) c (omega arith) in
    let d : drop (suc at) (p ++ q) ≡ q = drop_at p q (suc at) pl in
    rw (moved_part c at n h, append_assoc p (slice at n c) (drop (at + 1 + (n - at)) c)) (set_split (p ++ q) at v il ∙ rw (t, d, e))

pub length_inserted : (c : List ℕ) (n at v : ℕ) → at ≤ n → n < length c → length (inserted c n at v) ≡ length c
length_inserted c n at v h l =
    let nl : n ≤ length c = omega arith in
    let al : at ≤ length c = omega arith in
    simp (length-append, length-drop) (omega (arith, length-take-le at c al, length-take-le n c nl))

module _ (c : List ℕ) (n at v : ℕ) (h : at ≤ n) (l : n < length c) where
  head : length (take at c) ≡ at
  head = let al : at ≤ length c = omega arith in length-take-le at c al

  mid : length (slice at n c) ≡ n - at
  mid = let nl : n ≤ length c = omega arith in length-slice at n c nl

  pub inserted_before : (x : ℕ) → x < at → get_or (inserted c n at v) x 0 ≡ get_or c x 0
  inserted_before x p =
      let q : x < length (take at c) = omega (arith, head) in
      get_or-append (take at c) (v ∷ (slice at n c ++ drop (suc n) c)) 0 x q ∙ get_or-take at c x 0 p

  rest : (y : ℕ) → get_or (inserted c n at v) (at + y) 0 ≡ get_or (v ∷ (slice at n c ++ drop (suc n) c)) y 0
  rest y = ap (λ (k : ℕ). get_or (inserted c n at v) (k + y) 0) (sym head) ∙ get_or-append-add (take at c) (v ∷ (slice at n c ++ drop (suc n) c)) y 0

  pub inserted_at : get_or (inserted c n at v) at 0 ≡ v
  inserted_at = let e : at ≡ at + 0 = omega arith in ap (λ (k : ℕ). get_or (inserted c n at v) k 0) e ∙ rest 0

  -- those from `at` on stand one further
  pub inserted_after : (x : ℕ) → at ≤ x → x < n → get_or (inserted c n at v) (suc x) 0 ≡ get_or c x 0
  inserted_after x p q =
      let e : suc x ≡ at + suc (x - at) = omega arith in
      let e' : at + (x - at) ≡ x = omega arith in
      let b : x - at < length (slice at n c) = omega (arith, mid) in
      ap (λ (k : ℕ). get_or (inserted c n at v) k 0) e ∙ rest (suc (x - at)) ∙ get_or-append (slice at n c) (drop (suc n) c) 0 (x - at) b
      ∙ get_or-drop at (take n c) (x - at) 0 ∙ ap (λ (k : ℕ). get_or (take n c) k 0) e' ∙ get_or-take n c x 0 q

  -- what is past those that count stays
  pub inserted_past : (x : ℕ) → n < x → get_or (inserted c n at v) x 0 ≡ get_or c x 0
  inserted_past x p =
      let y : ℕ = x - suc n in
      let e : x ≡ at + suc (n - at + y) = omega arith in
      let e' : suc n + y ≡ x = omega arith in
      ap (λ (k : ℕ). get_or (inserted c n at v) k 0) e ∙ rest (suc (n - at + y))
      ∙ ap (λ (k : ℕ). get_or (slice at n c ++ drop (suc n) c) (k + y) 0) (sym mid) ∙ get_or-append-add (slice at n c) (drop (suc n) c) y 0
      ∙ get_or-drop (suc n) c y 0 ∙ ap (λ (k : ℕ). get_or c k 0) e'

-- ---- a cut

-- those from j up to n moved down to i
pub cut_moved : (c : List ℕ) (n i j : ℕ) → j ≤ n → copy_within c j n i ≡ without c n i j
cut_moved c n i j h = rw (moved_part c j n h) (append_assoc (take i c) (slice j n c) (drop (i + (n - j)) c))

-- nothing taken out
pub cut_none : (c : List ℕ) (n i : ℕ) → i ≤ n → n ≤ length c → without c n i i ≡ c
cut_none c n i h l =
    let e : i + (n - i) ≡ n = omega arith in
    rw (e, ← append_assoc (take i c) (slice i n c) (drop n c), ← take-take i n c h, take-append-drop i (take n c))
    (take-append-drop n c)

pub length_without : (c : List ℕ) (n i j : ℕ) → i ≤ j → j ≤ n → n ≤ length c → length (without c n i j) ≡ length c
length_without c n i j h k l =
    let il : i ≤ length c = omega arith in
    simp (length-append, length-drop) (omega (arith, length-take-le i c il, length-take-le n c l))

module _ (c : List ℕ) (n i j : ℕ) (h : i ≤ j) (k : j ≤ n) (l : n ≤ length c) where
  ahead : length (take i c) ≡ i
  ahead = let il : i ≤ length c = omega arith in length-take-le i c il

  tail : (y : ℕ) → get_or (without c n i j) (i + y) 0 ≡ get_or (slice j n c ++ drop (i + (n - j)) c) y 0
  tail y = ap (λ (t : ℕ). get_or (without c n i j) (t + y) 0) (sym ahead) ∙ get_or-append-add (take i c) (slice j n c ++ drop (i + (n - j)) c) y 0

  pub cut_before : (x : ℕ) → x < i → get_or (without c n i j) x 0 ≡ get_or c x 0
  cut_before x p =
      let q : x < length (take i c) = omega (arith, ahead) in
      get_or-append (take i c) (slice j n c ++ drop (i + (n - j)) c) 0 x q ∙ get_or-take i c x 0 p

  -- those from j on stand from i on
  pub cut_after : (y : ℕ) → j + y < n → get_or (without c n i j) (i + y) 0 ≡ get_or c (j + y) 0
  cut_after y p =
      let b : y < length (slice j n c) = omega (arith, length-slice j n c l) in
      tail y ∙ get_or-append (slice j n c) (drop (i + (n - j)) c) 0 y b ∙ get_or-drop j (take n c) y 0 ∙ get_or-take n c (j + y) 0 p

-- ---- a column that rises

-- the place where it falls apart is one only
pub splits_unique : (c : List ℕ) (n k r s : ℕ) → Splits c n k r → Splits c n k s → r ≡ s
splits_unique c n k r s p q = ⊎_elim (λ w. absurd (less w p q)) (λ w. ⊎_elim (λ v. absurd (less v q p)) (λ v. omega arith) (lt_or_ge s r)) (lt_or_ge r s)
  where
    less : {a b : ℕ} → a < b → Splits c n k a → Splits c n k b → ⊥
    less {a} {b} w x y =
        let an : a < n = omega (arith, y.within) in
        let al : a ≤ a = omega arith in
        omega (arith, x.high a al an, y.low a w)

-- fewer lie at or below less
pub splits_mono : (c : List ℕ) (n k m r s : ℕ) → k ≤ m → Splits c n k r → Splits c n m s → r ≤ s
splits_mono c n k m r s h p q = ⊎_elim (λ w. absurd (less w)) (λ w. w) (lt_or_ge s r)
  where
    less : s < r → ⊥
    less w =
        let sn : s < n = omega (arith, p.within) in
        let sl : s ≤ s = omega arith in
        omega (arith, q.high s sl sn, p.low s w)

-- a key that is not the last of those at or below it is not there
pub splits_absent : (c : List ℕ) (n k r : ℕ) → Rising c n → Splits c n k r → (0 < r → get_or c (r - 1) 0 ≡ k → ⊥) → (x : ℕ) → x < n → get_or c x 0 ≡ k → ⊥
splits_absent c n k r R S h x q e =
    ⊎_elim
    (λ w. ⊎_elim
    (λ u. omega (arith, R x (r - 1) u (omega (arith, S.within)), S.low (r - 1) (omega arith)))
    (λ u. let f : r - 1 ≡ x = omega arith in h (omega arith) (ap (λ (t : ℕ). get_or c t 0) f ∙ e))
    (lt_or_ge x (r - 1)))
    (λ w. omega (arith, S.high x w q))
    (lt_or_ge x r)

-- what the middle element tells of those on one side of it
pub half_low : (c : List ℕ) (n k mid : ℕ) → Rising c n → mid < n → get_or c mid 0 ≤ k → (i : ℕ) → i < mid + 1 → get_or c i 0 ≤ k
half_low c n k mid r m h i p =
    ⊎_elim (λ w. omega (arith, r i mid w m)) (λ w. let e : i ≡ mid = omega arith in rw e h) (lt_or_ge i mid)

pub half_high : (c : List ℕ) (n k mid : ℕ) → Rising c n → k < get_or c mid 0 → (i : ℕ) → mid ≤ i → i < n → k < get_or c i 0
half_high c n k mid r h i p q =
    ⊎_elim (λ w. omega (arith, r mid i w q)) (λ w. let e : i ≡ mid = omega arith in rw e h) (lt_or_ge mid i)

-- neighbours that rise make a column that rises
pub rising_next : (c : List ℕ) (n : ℕ) → ((k : ℕ) → k + 1 < n → get_or c k 0 < get_or c (k + 1) 0) → Rising c n
rising_next c n h a b ab bn = go b ab bn
  where
    go : (b : ℕ) → a < b → b < n → get_or c a 0 < get_or c b 0
    go zero p q = absurd (omega arith)
    go (suc b) p q = let s : get_or c b 0 < get_or c (suc b) 0 = rw add-one at (h b (omega arith)) in ⊎_elim (λ w. omega (arith, go b w (omega arith), s)) (λ w. let e : a ≡ b = omega arith in rw e s) (lt_or_ge a b)
