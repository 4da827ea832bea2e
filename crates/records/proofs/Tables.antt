-- Laws of tables and of their entries in rising order: a key inserted, overwritten, a span cut out, a window, and how many entries there are.
-- They speak of functions of the place, so no law knows how memory holds the entries.
-- Assumes nothing.
use mathlib.Core.Path.{◌≡◌, refl, sym, ap, ◌∙◌}
use mathlib.Core.Logic.{◌⊎◌, inl, inr, ⊎_elim}
use mathlib.Core.Bool.{Bool, true, false, cond}
use mathlib.Core.Option.{Option, none, some, none-ne-some}
use Prim.Native.Nat.{ℕ, zero, suc, ◌+◌, ◌-◌, ◌≤◌, ◌<◌}
use native.Mathlib.Omega.{arith}
use lib.Dec.{eqb, ltb}
use borrow.Author.Tests.{eq-eqb, ne_eqb, lt-ltb, le-ltb}
use Rattle.columns.proofs.Cases.{lt_or_ge, eq_or_ne}
use Rattle.records.specs.Table.{Value, Table, put, dropped, only, Listed, Size}

-- ---- one entry set

pub put_same : (k : ℕ) (v : Option Value) (T : Table) → put k v T k ≡ v
put_same k v T = simp (eq-eqb k k refl)

pub put_other : (k : ℕ) (v : Option Value) (T : Table) (j : ℕ) → (j ≡ k → ⊥) → put k v T j ≡ T j
put_other k v T j h = simp (ne_eqb j k h)

-- ---- places of keys

-- a key stands at some place below n, or at none
pub find_place : (n : ℕ) (key : ℕ → ℕ) (k : ℕ) → ((i : ℕ) × (i < n) × (key i ≡ k)) ⊎ ((i : ℕ) → i < n → key i ≡ k → ⊥)
find_place zero key k = inr (λ i p. absurd (omega arith))
find_place (suc n) key k = go (find_place n key k) (eq_or_ne (key n) k)
  where
    go : ((i : ℕ) × (i < n) × (key i ≡ k)) ⊎ ((i : ℕ) → i < n → key i ≡ k → ⊥) → (key n ≡ k) ⊎ (key n ≡ k → ⊥)
        → ((i : ℕ) × (i < suc n) × (key i ≡ k)) ⊎ ((i : ℕ) → i < suc n → key i ≡ k → ⊥)
    go f (inl e) = inl (n, omega arith, e)
    go (inl f) (inr e) = inl (f.0, omega (arith, f.1), f.2)
    go (inr f) (inr e) = inr (λ i p q. ⊎_elim (λ w. f i w q) (λ w. let s : i ≡ n = omega arith in e (ap key (sym s) ∙ q)) (lt_or_ge i n))

-- an entry of the table stands at some place
pub listed_at : (n : ℕ) (key : ℕ → ℕ) (val : ℕ → Value) (T : Table) → Listed n key val T → (k : ℕ) (v : Value) → T k ≡ some v
    → (i : ℕ) × (i < n) × (key i ≡ k)
listed_at n key val T L k v e = ⊎_elim (λ w. w) (λ w. absurd (none-ne-some v (sym (L.none_else k w) ∙ e))) (find_place n key k)

-- two places with one key are one
pub listed_apart : (n : ℕ) (key : ℕ → ℕ) (val : ℕ → Value) (T : Table) → Listed n key val T → (i j : ℕ) → i < n → j < n → key i ≡ key j → i ≡ j
listed_apart n key val T L i j p q e =
    ⊎_elim (λ w. absurd (omega (arith, L.rising i j w q)))
    (λ w. ⊎_elim (λ u. absurd (omega (arith, L.rising j i u p))) (λ u. omega arith) (lt_or_ge j i)) (lt_or_ge i j)

-- only the first n places matter, and only what the table says of each key
pub listed_cong : (n : ℕ) (key key' : ℕ → ℕ) (val val' : ℕ → Value) (T T' : Table)
    → ((i : ℕ) → i < n → key i ≡ key' i) → ((i : ℕ) → i < n → val i ≡ val' i) → ((k : ℕ) → T k ≡ T' k) → Listed n key val T → Listed n key' val' T'
listed_cong n key key' val val' T T' ek ev et L = record {
  rising = λ i j p q. let p' : i < n = omega arith in omega (arith, L.rising i j p q, ek i p', ek j q);
  has = λ i p. sym (et (key' i)) ∙ ap T (sym (ek i p)) ∙ L.has i p ∙ ap some (ev i p);
  none_else = λ k h. sym (et k) ∙ L.none_else k (λ i p e. h i p (sym (ek i p) ∙ e));
}

-- ---- a new key, before place p

module _ (n : ℕ) (key key' : ℕ → ℕ) (val val' : ℕ → Value) (T : Table) (L : Listed n key val T) (k : ℕ) (v : Value) (p : ℕ) (pn : p ≤ n)
    (low : (x : ℕ) → x < p → key x < k) (high : (x : ℕ) → p ≤ x → x < n → k < key x)
    (k-before : (x : ℕ) → x < p → key' x ≡ key x) (k-at : key' p ≡ k) (k-after : (x : ℕ) → p ≤ x → x < n → key' (suc x) ≡ key x)
    (v-before : (x : ℕ) → x < p → val' x ≡ val x) (v-at : val' p ≡ v) (v-after : (x : ℕ) → p ≤ x → x < n → val' (suc x) ≡ val x)
  where
    -- where the entry at place y was: before p, the new one, or one place lower
    Was : ℕ → Type 0
    Was y = (y < p) ⊎ ((y ≡ p) ⊎ ((x : ℕ) × (y ≡ suc x) × (p ≤ x) × (x < n)))

    was : (y : ℕ) → y < suc n → Was y
    unfolding Was
    was y q =
        ⊎_elim inl
        (λ w. ⊎_elim (λ u. inr (inr (y - 1, omega arith, omega arith, omega arith))) (λ u. inr (inl (omega arith))) (lt_or_ge p y))
        (lt_or_ge y p)

    new_rising : (i j : ℕ) → i < j → Was i → Was j → key' i < key' j
    unfolding Was
    new_rising i j h (inl a) (inl b) = let bn : j < n = omega arith in omega (arith, k-before i a, k-before j b, L.rising i j h bn)
    new_rising i j h (inl a) (inr (inl b)) = omega (arith, k-before i a, low i a, k-at, ap key' b)
    new_rising i j h (inl a) (inr (inr b)) = omega (arith, k-before i a, low i a, high b.0 b.2 b.3, k-after b.0 b.2 b.3, ap key' b.1)
    new_rising i j h (inr (inl a)) (inl b) = absurd (omega arith)
    new_rising i j h (inr (inl a)) (inr (inl b)) = absurd (omega arith)
    new_rising i j h (inr (inl a)) (inr (inr b)) = omega (arith, ap key' a, k-at, high b.0 b.2 b.3, k-after b.0 b.2 b.3, ap key' b.1)
    new_rising i j h (inr (inr a)) (inl b) = absurd (omega (arith, a.1, a.2))
    new_rising i j h (inr (inr a)) (inr (inl b)) = absurd (omega (arith, a.1, a.2))
    new_rising i j h (inr (inr a)) (inr (inr b)) =
        let l : a.0 < b.0 = omega (arith, a.1, b.1) in
        omega (arith, ap key' a.1, ap key' b.1, k-after a.0 a.2 a.3, k-after b.0 b.2 b.3, L.rising a.0 b.0 l b.3)

    new_has : (y : ℕ) → Was y → put k (some v) T (key' y) ≡ some (val' y)
    unfolding Was
    new_has y (inl a) =
        let yn : y < n = omega arith in
        rw (k-before y a, v-before y a) (put_other k (some v) T (key y) (λ e. omega (arith, low y a)) ∙ L.has y yn)
    new_has y (inr (inl a)) = rw (a, k-at, v-at) (put_same k (some v) T)
    new_has y (inr (inr a)) =
        rw (a.1, k-after a.0 a.2 a.3, v-after a.0 a.2 a.3)
        (put_other k (some v) T (key a.0) (λ e. omega (arith, high a.0 a.2 a.3)) ∙ L.has a.0 a.3)

    pub insert_listed : Listed (suc n) key' val' (put k (some v) T)
    insert_listed = record {
      rising = λ i j h q. new_rising i j h (was i (omega arith)) (was j q);
      has = λ y q. new_has y (was y q);
      none_else = λ j h.
          put_other k (some v) T j (λ e. h p (omega arith) (k-at ∙ sym e))
          ∙ L.none_else j (λ x q e. ⊎_elim (λ w. h x (omega arith) (k-before x w ∙ e)) (λ w. h (suc x) (omega arith) (k-after x w q ∙ e)) (lt_or_ge x p));
    }

-- ---- an old key

module _ (n : ℕ) (key : ℕ → ℕ) (val val' : ℕ → Value) (T : Table) (L : Listed n key val T) (k : ℕ) (v : Value) (p : ℕ) (pn : p < n)
    (at : key p ≡ k) (v-at : val' p ≡ v) (v-other : (x : ℕ) → x < n → (x ≡ p → ⊥) → val' x ≡ val x)
  where
    pub overwrite_listed : Listed n key val' (put k (some v) T)
    overwrite_listed = record {
      rising = L.rising;
      has = λ i q. ⊎_elim
          (λ w. ap (put k (some v) T) (ap key w ∙ at) ∙ put_same k (some v) T ∙ ap some (sym (ap val' w ∙ v-at)))
          (λ w. rw (v-other i q w) (put_other k (some v) T (key i) (λ e. w (listed_apart n key val T L i p q pn (e ∙ sym at))) ∙ L.has i q))
          (eq_or_ne i p);
      none_else = λ j h. put_other k (some v) T j (λ e. h p pn (at ∙ sym e)) ∙ L.none_else j h;
    }

-- ---- a span of places, from i up to j, that is just where a test on keys holds

pub dropped_true : (p : ℕ → Bool) (T : Table) (k : ℕ) → p k ≡ true → dropped p T k ≡ none
dropped_true p T k e = simp e

pub dropped_false : (p : ℕ → Bool) (T : Table) (k : ℕ) → p k ≡ false → dropped p T k ≡ T k
dropped_false p T k e = simp e

pub dropped_none : (p : ℕ → Bool) (T : Table) (k : ℕ) → T k ≡ none → dropped p T k ≡ none
dropped_none p T k e = go (p k) refl
  where
    go : (t : Bool) → p k ≡ t → dropped p T k ≡ none
    go true h = simp h
    go false h = simp h e

pub only_true : (p : ℕ → Bool) (T : Table) (k : ℕ) → p k ≡ true → only p T k ≡ T k
only_true p T k e = simp e

pub only_false : (p : ℕ → Bool) (T : Table) (k : ℕ) → p k ≡ false → only p T k ≡ none
only_false p T k e = simp e

pub only_none : (p : ℕ → Bool) (T : Table) (k : ℕ) → T k ≡ none → only p T k ≡ none
only_none p T k e = go (p k) refl
  where
    go : (t : Bool) → p k ≡ t → only p T k ≡ none
    go true h = simp h e
    go false h = simp h

module _ (n : ℕ) (key : ℕ → ℕ) (val : ℕ → Value) (T : Table) (L : Listed n key val T) (i j : ℕ) (ij : i ≤ j) (jn : j ≤ n) (p : ℕ → Bool)
    (yes-in : (x : ℕ) → i ≤ x → x < j → p (key x) ≡ true) (not-out : (x : ℕ) → x < n → (i ≤ x → x < j → ⊥) → p (key x) ≡ false)
  where
    -- the span alone
    pub window_listed : Listed (j - i) (λ y. key (i + y)) (λ y. val (i + y)) (only p T)
    window_listed = record {
      rising = λ a b h q. L.rising (i + a) (i + b) (omega arith) (omega arith);
      has = λ y q. only_true p T (key (i + y)) (yes-in (i + y) (omega arith) (omega arith)) ∙ L.has (i + y) (omega arith);
      none_else = λ k h. ⊎_elim (λ w. inside k h w) (λ w. only_none p T k (L.none_else k w)) (find_place n key k);
    }
      where
        inside : (k : ℕ) → ((y : ℕ) → y < j - i → key (i + y) ≡ k → ⊥) → (x : ℕ) × (x < n) × (key x ≡ k) → only p T k ≡ none
        inside k h w =
            only_false p T k
            (ap p (sym w.2) ∙ not-out w.0 w.1 (λ a b. let e : i + (w.0 - i) ≡ w.0 = omega arith in h (w.0 - i) (omega arith) (ap key e ∙ w.2)))

    module _ (key' : ℕ → ℕ) (val' : ℕ → Value)
        (k-before : (x : ℕ) → x < i → key' x ≡ key x) (k-after : (y : ℕ) → j + y < n → key' (i + y) ≡ key (j + y))
        (v-before : (x : ℕ) → x < i → val' x ≡ val x) (v-after : (y : ℕ) → j + y < n → val' (i + y) ≡ val (j + y))
      where
        -- where the entry at place y was
        record Old (y : ℕ) : Type 0 where
          place : ℕ
          in_n : place < n
          out : i ≤ place → place < j → ⊥
          shift : (y < i → place ≡ y) × (i ≤ y → place ≡ j + (y - i))
          k_same : key' y ≡ key place
          v_same : val' y ≡ val place

        old : (y : ℕ) → y < n - (j - i) → Old y
        old y q = ⊎_elim (λ w. before w) (λ w. after w) (lt_or_ge y i)
          where
            before : y < i → Old y
            before w = record {
              place = y;
              in_n = omega arith;
              out = λ a b. omega arith;
              shift = ((λ a. refl), (λ a. absurd (omega arith)));
              k_same = k-before y w;
              v_same = v-before y w;
            }

            after : i ≤ y → Old y
            after w =
                let e : i + (y - i) ≡ y = omega arith in
                let f : j + (y - i) < n = omega arith in
                record {
                  place = j + (y - i);
                  in_n = f;
                  out = λ a b. omega arith;
                  shift = ((λ a. absurd (omega arith)), (λ a. refl));
                  k_same = ap key' (sym e) ∙ k-after (y - i) f;
                  v_same = ap val' (sym e) ∙ v-after (y - i) f;
                }

        order : (a b : ℕ) → a < b → (o : Old a) (u : Old b) → o.place < u.place
        order a b h o u =
            ⊎_elim
            (λ w. ⊎_elim (λ z. omega (arith, o.shift.0 w, u.shift.0 z)) (λ z. omega (arith, o.shift.0 w, u.shift.1 z)) (lt_or_ge b i))
            (λ w. let z : i ≤ b = omega arith in omega (arith, o.shift.1 w, u.shift.1 z))
            (lt_or_ge a i)

        -- what is left without the span
        pub span_listed : Listed (n - (j - i)) key' val' (dropped p T)
        span_listed = record {
          rising = λ a b h q.
              let o = old a (omega arith) in
              let u = old b q in
              omega (arith, o.k_same, u.k_same, L.rising o.place u.place (order a b h o u) u.in_n);
          has = λ y q.
              let o = old y q in
              rw (o.k_same, o.v_same) (dropped_false p T (key o.place) (not-out o.place o.in_n o.out) ∙ L.has o.place o.in_n);
          none_else = λ k h. ⊎_elim (λ w. gone k h w) (λ w. dropped_none p T k (L.none_else k w)) (find_place n key k);
        }
          where
            gone : (k : ℕ) → ((y : ℕ) → y < n - (j - i) → key' y ≡ k → ⊥) → (x : ℕ) × (x < n) × (key x ≡ k) → dropped p T k ≡ none
            gone k h w =
                ⊎_elim
                (λ a. absurd (h w.0 (omega (arith, w.1)) (k-before w.0 a ∙ w.2)))
                (λ a. ⊎_elim
                (λ b. dropped_true p T k (ap p (sym w.2) ∙ yes-in w.0 a b))
                (λ b.
                let e : j + (w.0 - j) ≡ w.0 = omega arith in
                let f : j + (w.0 - j) < n = omega (arith, w.1) in
                absurd (h (i + (w.0 - j)) (omega (arith, w.1)) (k-after (w.0 - j) f ∙ ap key e ∙ w.2)))
                (lt_or_ge w.0 j))
                (lt_or_ge w.0 i)

-- what the test holds of is not there: taking it out changes nothing
pub untouched_listed : (n : ℕ) (key : ℕ → ℕ) (val : ℕ → Value) (T : Table) → Listed n key val T → (p : ℕ → Bool)
    → ((x : ℕ) → x < n → p (key x) ≡ false) → Listed n key val (dropped p T)
untouched_listed n key val T L p h = listed_cong n key key val val T (dropped p T) (λ i q. refl) (λ i q. refl) same L
  where
    same : (k : ℕ) → T k ≡ dropped p T k
    same k =
        ⊎_elim (λ w. sym (dropped_false p T k (ap p (sym w.2) ∙ h w.0 w.1)))
        (λ w. L.none_else k w ∙ sym (dropped_none p T k (L.none_else k w))) (find_place n key k)

-- ---- how many entries there are

-- a table whose keys all have entries in another has no more of them
pub size_le : (n m : ℕ) (T T' : Table) → Size T n → Size T' m → ((k : ℕ) (v : Value) → T k ≡ some v → (w : Value) × (T' k ≡ some w)) → n ≤ m
size_le zero m T T' s t h = omega arith
size_le (suc n) m T T' s t h = let z = up n (omega arith) in omega (arith, z.1, z.2)
  where
    -- the entry at place x stands in the other at place x or later
    at : (x : ℕ) → x < suc n → (z : ℕ) × (z < m) × (t.0 z ≡ s.0 x)
    at x q = let w = h (s.0 x) (s.1 x) (s.2.has x q) in listed_at m t.0 t.1 T' t.2 (s.0 x) w.0 w.1

    up : (x : ℕ) → x < suc n → (z : ℕ) × (x ≤ z) × (z < m) × (t.0 z ≡ s.0 x)
    up zero q = let w = at zero q in (w.0, omega arith, w.1, w.2)
    up (suc x) q =
        let w = up x (omega arith) in
        let u = at (suc x) q in
        let r : s.0 x < s.0 (suc x) = s.2.rising x (suc x) (omega arith) q in (
          u.0,
          ⊎_elim (λ a. omega (arith, w.1)) (λ a. absurd (later w u r a)) (lt_or_ge w.0 u.0),
          u.1,
          u.2,
        )
      where
        later : (w : (z : ℕ) × (x ≤ z) × (z < m) × (t.0 z ≡ s.0 x)) (u : (z : ℕ) × (z < m) × (t.0 z ≡ s.0 (suc x)))
            → s.0 x < s.0 (suc x) → u.0 ≤ w.0 → ⊥
        later w u r a =
            ⊎_elim (λ b. omega (arith, t.2.rising u.0 w.0 b w.2, w.3, u.2))
            (λ b. let e : u.0 ≡ w.0 = omega arith in omega (arith, ap t.0 e, w.3, u.2)) (lt_or_ge u.0 w.0)

pub size_unique : (n m : ℕ) (T : Table) → Size T n → Size T m → n ≡ m
size_unique n m T s t =
    omega (arith, size_le n m T T s t (λ k v e. (v, e)), size_le m n T T t s (λ k v e. (v, e)))

-- the place that a new key gets
place_for : (n : ℕ) (key : ℕ → ℕ) (k : ℕ) → ((i j : ℕ) → i < j → j < n → key i < key j) → ((i : ℕ) → i < n → key i ≡ k → ⊥)
    → (p : ℕ) × (p ≤ n) × ((x : ℕ) → x < p → key x < k) × ((x : ℕ) → p ≤ x → x < n → k < key x)
place_for zero key k r h = (zero, omega arith, (λ x q. absurd (omega arith)), (λ x a b. absurd (omega arith)))
place_for (suc n) key k r h = ⊎_elim over (under (place_for n key k (λ i j a b. r i j a (omega arith)) (λ i a. h i (omega arith)))) (lt_or_ge (key n) k)
  where
    over : key n < k → (p : ℕ) × (p ≤ suc n) × ((x : ℕ) → x < p → key x < k) × ((x : ℕ) → p ≤ x → x < suc n → k < key x)
    over a = (
      suc n,
      omega arith,
      (λ x q. ⊎_elim (λ w. omega (arith, r x n w (omega arith))) (λ w. let e : x ≡ n = omega arith in omega (arith, ap key e)) (lt_or_ge x n)),
      (λ x b c. absurd (omega arith)),
    )

    under : (p : ℕ) × (p ≤ n) × ((x : ℕ) → x < p → key x < k) × ((x : ℕ) → p ≤ x → x < n → k < key x) → k ≤ key n
        → (p : ℕ) × (p ≤ suc n) × ((x : ℕ) → x < p → key x < k) × ((x : ℕ) → p ≤ x → x < suc n → k < key x)
    under w a = (
      w.0,
      omega (arith, w.1),
      w.2,
      (λ x b c. ⊎_elim (λ u. w.3 x b u) (λ u. let e : x ≡ n = omega arith in last (ap key e)) (lt_or_ge x n)),
    )
      where
        last : {x : ℕ} → x ≡ key n → k < x
        last e = let ne : key n ≡ k → ⊥ = λ f. h n (omega arith) f in omega arith

-- a new key is one entry more
pub size_new : (n : ℕ) (T : Table) (k : ℕ) (v : Value) → Size T n → T k ≡ none → Size (put k (some v) T) (suc n)
size_new n T k v s e = go (place_for n s.0 k s.2.rising fresh)
  where
    fresh : (i : ℕ) → i < n → s.0 i ≡ k → ⊥
    fresh i q f = none-ne-some (s.1 i) (sym e ∙ ap T (sym f) ∙ s.2.has i q)

    go : (p : ℕ) × (p ≤ n) × ((x : ℕ) → x < p → s.0 x < k) × ((x : ℕ) → p ≤ x → x < n → k < s.0 x) → Size (put k (some v) T) (suc n)
    go w = (key', val', insert_listed n s.0 key' s.1 val' T s.2 k v p w.1 w.2 w.3 k1 k2 k3 v1 v2 v3)
      where
        p : ℕ
        p = w.0

        key' : ℕ → ℕ
        key' x = cond (ltb x p) (s.0 x) (cond (eqb x p) k (s.0 (x - 1)))

        val' : ℕ → Value
        val' x = cond (ltb x p) (s.1 x) (cond (eqb x p) v (s.1 (x - 1)))

        k1 : (x : ℕ) → x < p → key' x ≡ s.0 x
        k1 x q = simp (lt-ltb x p q)

        v1 : (x : ℕ) → x < p → val' x ≡ s.1 x
        v1 x q = simp (lt-ltb x p q)

        k2 : key' p ≡ k
        k2 = simp (le-ltb p p (omega arith), eq-eqb p p refl)

        v2 : val' p ≡ v
        v2 = simp (le-ltb p p (omega arith), eq-eqb p p refl)

        k3 : (x : ℕ) → p ≤ x → x < n → key' (suc x) ≡ s.0 x
        k3 x a b = let d : suc x - 1 ≡ x = omega arith in simp (le-ltb (suc x) p (omega arith), ne_eqb (suc x) p (omega arith), d)

        v3 : (x : ℕ) → p ≤ x → x < n → val' (suc x) ≡ s.1 x
        v3 x a b = let d : suc x - 1 ≡ x = omega arith in simp (le-ltb (suc x) p (omega arith), ne_eqb (suc x) p (omega arith), d)

-- an old key is none more
pub size_old : (n : ℕ) (T : Table) (k : ℕ) (v w : Value) → Size T n → T k ≡ some w → Size (put k (some v) T) n
size_old n T k v w s e = go (listed_at n s.0 s.1 T s.2 k w e)
  where
    go : (i : ℕ) × (i < n) × (s.0 i ≡ k) → Size (put k (some v) T) n
    go u = (s.0, val', overwrite_listed n s.0 s.1 val' T s.2 k v u.0 u.1 u.2 here other)
      where
        val' : ℕ → Value
        val' x = cond (eqb x u.0) v (s.1 x)

        here : val' u.0 ≡ v
        here = simp (eq-eqb u.0 u.0 refl)

        other : (x : ℕ) → x < n → (x ≡ u.0 → ⊥) → val' x ≡ s.1 x
        other x q f = simp (ne_eqb x u.0 f)

-- without the span there are so many fewer
pub size_span : (n : ℕ) (key : ℕ → ℕ) (val : ℕ → Value) (T : Table) → Listed n key val T → (i j : ℕ) → i ≤ j → j ≤ n → (p : ℕ → Bool)
    → ((x : ℕ) → i ≤ x → x < j → p (key x) ≡ true) → ((x : ℕ) → x < n → (i ≤ x → x < j → ⊥) → p (key x) ≡ false)
    → Size (dropped p T) (n - (j - i))
size_span n key val T L i j ij jn p yes-in not-out =
    (key', val', span_listed n key val T L i j ij jn p yes-in not-out key' val' (λ x q. before key x q) (λ y q. after key y) (λ x q. before val x q) (λ y q. after val y))
  where
    moved : {A : Type 0} → (ℕ → A) → ℕ → A
    moved f x = cond (ltb x i) (f x) (f (j + (x - i)))

    key' : ℕ → ℕ
    key' = moved key

    val' : ℕ → Value
    val' = moved val

    before : {A : Type 0} (f : ℕ → A) (x : ℕ) → x < i → moved f x ≡ f x
    before f x q = simp (lt-ltb x i q)

    after : {A : Type 0} (f : ℕ → A) (y : ℕ) → moved f (i + y) ≡ f (j + y)
    after f y = let e : i + y - i ≡ y = omega arith in simp (le-ltb (i + y) i (omega arith), e)
