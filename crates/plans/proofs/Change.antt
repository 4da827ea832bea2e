-- Why a change keeps the map: the new bounds are, from the front, those below lo (`head`), v's from lo on (`begin`), the old owner's again from
-- hi on (`resume`), and the old ones above hi (`tail`). Each stage is a `Part` of the new map.
-- Assumes nothing.
use mathlib.Core.Path.{◌≡◌, refl, sym, ap, ◌∙◌}
use mathlib.Core.Logic.{inl, inr, ⊎_elim}
use mathlib.Core.Bool.{Bool, true, false, not, false≢true}
use mathlib.Core.List.{List}
use Prim.Native.Nat.{ℕ, zero, suc, ◌+◌, ◌-◌, ◌≤◌, ◌<◌}
use native.Mathlib.Omega.{arith}
use lib.Dec.{eqb}
use lib.ListN.{length, get_or}
use borrow.Author.Tests.{ltb-true, ltb-false, eqb-true, eqb-false, not-true, not-false}
use mir.Val.{bool_byte}
use Rattle.keys.specs.declared.Bound.{Bound}
use Rattle.keys.specs.declared.Bound.TheVariants.{Key, End}
use Rattle.keys.specs.Bound.{below}
use Rattle.keys.proofs.Laws.{Under, below_trans, holds_true, holds_false}
use Rattle.columns.proofs.Cases.{lt_or_ge}
use Rattle.plans.specs.declared.Plan.{Plan}
use Rattle.delegation.specs.Map.{Keeps, updated}
use Rattle.searches.specs.Search.{Before}
use Rattle.plans.specs.Plan.{Through, EndsWith, turned, key_of, count, Edited, Planned}
use Rattle.plans.proofs.Part.{Part, Any, at, from_keeps, to_keeps, extend, widen, recount}
use Rattle.delegation.proofs.Laws.{updated_in, updated_out}

-- ---- up to lo, and on from there: i bounds lie below a, and the new map g is f up to a and v from a on, up to a limit C

module _ (low own low' own' f g : ℕ → ℕ) (n i a v : ℕ) (C : ℕ → Type 0) (K : Part low own n Any f) (within : i ≤ n)
    (under : (x : ℕ) → x < i → low x < a) (above : (x : ℕ) → i ≤ x → x < n → a ≤ low x)
    (kept : (k : ℕ) → k < a → g k ≡ f k) (given : (k : ℕ) → a ≤ k → C k → g k ≡ v)
    (lows : (x : ℕ) → x < i → low' x ≡ low x) (owns : (x : ℕ) → x < i → own' x ≡ own x) where
  -- the bounds below a
  head : 0 < i → Part low' own' i (λ (k : ℕ). k < a) g
  head p = record {
    some = p;
    zero = lows 0 p ∙ K.zero;
    rising = λ x y h l. omega (arith, lows x (omega arith), lows y l, K.rising x y h (omega arith));
    joined = λ x h e. K.joined x (omega arith) (sym (owns x (omega arith)) ∙ e ∙ owns (suc x) h);
    means = λ x k h l u d.
        let q : k < a = ⊎_elim (λ w. omega (arith, u w, lows (suc x) w, under (suc x) w)) d (lt_or_ge (suc x) i) in
        kept k q
        ∙ K.means x k (omega arith) (omega (arith, lows x h))
        (λ s. ⊎_elim (λ w. omega (arith, u w, lows (suc x) w)) (λ w. omega (arith, above (suc x) w s)) (lt_or_ge (suc x) i)) (λ _. tt)
        ∙ sym (owns x h);
  }

  -- a bound is put at a unless the one before it is v's already
  begin : (l : Bool) → (l ≡ true → low' i ≡ a) → (l ≡ true → own' i ≡ v) → (l ≡ true → 0 < i → own (i - 1) ≡ v → ⊥)
      → (l ≡ false → (0 < i) × (own (i - 1) ≡ v))
      → Part low' own' (i + count l) C g × (own' (i + count l - 1) ≡ v) × (low' (i + count l - 1) ≤ a)
  begin true s o j r =
      let e : i + 1 - 1 ≡ i = omega arith in
      (⊎_elim more first (lt_or_ge 0 i), rw e (o refl), rw e (omega (arith, s refl)))
    where
      more : 0 < i → Part low' own' (i + 1) C g
      more p =
          let q : i - 1 < i = omega arith in
          extend low' own' i (λ (k : ℕ). k < a) C g (head p) (λ k h. omega (arith, s refl)) (omega (arith, s refl, lows (i - 1) q, under (i - 1) q))
          (λ h. j refl p (sym (owns (i - 1) q) ∙ h ∙ o refl)) (λ k h u. given k (omega (arith, s refl)) u ∙ sym (o refl))

      first : i ≤ 0 → Part low' own' (i + 1) C g
      first p =
          let z : i ≡ 0 = omega arith in
          let az : a ≡ 0 = omega (arith, K.zero, above 0 p K.some) in
          record {
            some = omega arith;
            zero = rw z at (s refl) ∙ az;
            rising = λ x y h l. absurd (omega arith);
            joined = λ x h. absurd (omega arith);
            means = λ x k h l u d. let t : x ≡ i = omega arith in given k (omega arith) (d (omega arith)) ∙ sym (rw t (o refl));
          }
  begin false s o j r =
      let p : 0 < i = (r refl).0 in
      let q : i - 1 < i = omega arith in
      let e : i + 0 ≡ i = omega arith in
      let own_v : own' (i - 1) ≡ v = owns (i - 1) q ∙ (r refl).1 in
      rw e
      (widen low' own' i (λ (k : ℕ). k < a) C g (head p) (λ k u. ⊎_elim (λ w. inl w) (λ w. inr (given k w u ∙ sym own_v)) (lt_or_ge k a)), own_v, omega (arith, lows (i - 1) q, under (i - 1) q))

-- ---- from a key b on, where the new map is the old one again: j bounds lie at or below b

module _ (low own low' own' f g : ℕ → ℕ) (n j b : ℕ) (K : Part low own n Any f) (within : j ≤ n)
    (upon : (x : ℕ) → x < j → low x ≤ b) (past : (x : ℕ) → j ≤ x → x < n → b < low x) (kept : (k : ℕ) → b ≤ k → g k ≡ f k) where
  some : 0 < j
  some = ⊎_elim (λ w. w) (λ w. absurd (omega (arith, K.zero, past 0 w K.some))) (lt_or_ge 0 j)

  -- the keys from b up to the next old bound
  between : (k : ℕ) → b ≤ k → (j < n → k < low j) → g k ≡ own (j - 1)
  between k h u =
      let p : 0 < j = some in
      let q : j - 1 < j = omega arith in
      let e : suc (j - 1) ≡ j = omega arith in
      kept k h ∙ K.means (j - 1) k (omega arith) (omega (arith, upon (j - 1) q)) (rw e u) (λ _. tt)

  -- a bound is put at b unless its owner is the one before it
  resume : (m v : ℕ) (h : Bool) → Part low' own' m (λ (k : ℕ). k < b) g → own' (m - 1) ≡ v → low' (m - 1) < b → (h ≡ true → low' m ≡ b)
      → (h ≡ true → own' m ≡ own (j - 1)) → h ≡ not (eqb (own (j - 1)) v)
      → Part low' own' (m + count h) (λ (k : ℕ). j < n → k < low j) g × (own' (m + count h - 1) ≡ own (j - 1)) × (low' (m + count h - 1) ≤ b)
  resume m v true P ov lb s o t =
      let e : m + 1 - 1 ≡ m = omega arith in (
        extend low' own' m (λ (k : ℕ). k < b) (λ (k : ℕ). j < n → k < low j) g P (λ k q. omega (arith, s refl)) (omega (arith, s refl))
            (λ q. eqb-false (own (j - 1)) v (not-true (eqb (own (j - 1)) v) (sym t)) (sym (o refl) ∙ sym q ∙ ov))
            (λ k q u. between k (omega (arith, s refl)) u ∙ sym (o refl)),
        rw e (o refl),
        rw e (omega (arith, s refl)),
      )
  resume m v false P ov lb s o t =
      let e : m + 0 ≡ m = omega arith in
      let own_j : own' (m - 1) ≡ own (j - 1) = ov ∙ sym (eqb-true (own (j - 1)) v (not-false (eqb (own (j - 1)) v) (sym t))) in
      rw e
      (widen low' own' m (λ (k : ℕ). k < b) (λ (k : ℕ). j < n → k < low j) g P (λ k u. ⊎_elim (λ w. inl w) (λ w. inr (between k w u ∙ sym own_j)) (lt_or_ge k b)), own_j, omega arith)

  -- the old bounds above b follow, one after the other
  tail : (m : ℕ) → Part low' own' m (λ (k : ℕ). j < n → k < low j) g → own' (m - 1) ≡ own (j - 1) → low' (m - 1) ≤ b
      → ((x : ℕ) → j + x < n → low' (m + x) ≡ low (j + x)) → ((x : ℕ) → j + x < n → own' (m + x) ≡ own (j + x)) → (y : ℕ) → j + y ≤ n
      → Part low' own' (m + y) (λ (k : ℕ). j + y < n → k < low (j + y)) g × (own' (m + y - 1) ≡ own (j + y - 1)) × (j + y < n → low' (m + y - 1) < low (j + y))
  tail m P ov lb s o zero h =
      let e : m + 0 ≡ m = omega arith in
      let d : j + 0 ≡ j = omega arith in
      rw (e, d) (P, ov, λ q. omega (arith, past j (omega arith) q))
  tail m P ov lb s o (suc y) h =
      let q : j + y < n = omega arith in
      let r = tail m P ov lb s o y (omega arith) in
      let e : m + suc y ≡ m + y + 1 = omega arith in
      let d : j + suc y ≡ suc (j + y) = omega arith in
      let e' : m + y + 1 - 1 ≡ m + y = omega arith in
      let d' : suc (j + y) - 1 ≡ j + y = omega arith in
      let p : 0 < j = some in
      let t : suc (j + y - 1) ≡ j + y = omega arith in
      let turn : own (j + y - 1) ≡ own (j + y) → ⊥ = rw t at (K.joined (j + y - 1) (rw t q)) in
      rw (e, d, e', d') (
        extend low' own' (m + y) (λ (k : ℕ). j + y < n → k < low (j + y)) (λ (k : ℕ). suc (j + y) < n → k < low (suc (j + y))) g r.0
            (λ k u _. omega (arith, s y q)) (omega (arith, s y q, r.2 q)) (λ u. turn (sym r.1 ∙ u ∙ o y q))
            (λ k u c. kept k (omega (arith, s y q, past (j + y) (omega arith) q)) ∙ K.means (j + y) k q (omega (arith, s y q)) c (λ _. tt) ∙ sym (o y q)),
        o y q,
        λ u. omega (arith, s y q, K.rising (j + y) (suc (j + y)) (omega arith) u),
      )

  -- the whole map
  end : (m : ℕ) → Part low' own' m (λ (k : ℕ). j < n → k < low j) g → own' (m - 1) ≡ own (j - 1) → low' (m - 1) ≤ b
      → ((x : ℕ) → j + x < n → low' (m + x) ≡ low (j + x)) → ((x : ℕ) → j + x < n → own' (m + x) ≡ own (j + x)) → Part low' own' (m + (n - j)) Any g
  end m P ov lb s o =
      widen low' own' (m + (n - j)) (λ (k : ℕ). j + (n - j) < n → k < low (j + (n - j))) Any g (tail m P ov lb s o (n - j) (omega arith)).0
      (λ k u. inl (λ q. absurd (omega arith)))

-- ---- both ends: what is left to do from hi on

finish : (low own low' own' f g : ℕ → ℕ) (n i j a v w : ℕ) (l h : Bool) (hi : Bound) → Part low own n Any f → j ≤ n → below (Key a) hi ≡ true
    → ((x : ℕ) → x < j → below hi (Key (low x)) ≡ false) → ((x : ℕ) → j ≤ x → x < n → below hi (Key (low x)) ≡ true)
    → ((k : ℕ) → (Under hi k → ⊥) → g k ≡ f k)
    → Part low' own' (i + count l) (Under hi) g × (own' (i + count l - 1) ≡ v) × (low' (i + count l - 1) ≤ a)
    → (h ≡ true → low' (i + count l) ≡ key_of hi) → (h ≡ true → own' (i + count l) ≡ w) → (0 < j → w ≡ own (j - 1)) → h ≡ turned hi w v
    → ((x : ℕ) → j + x < n → low' (i + count l + count h + x) ≡ low (j + x))
    → ((x : ℕ) → j + x < n → own' (i + count l + count h + x) ≡ own (j + x))
    → Part low' own' (i + count l + count h + (n - j)) Any g
finish low own low' own' f g n i j a v w l h (Key b) K jn ne upon past outside B hl ho aft t tl to =
    let u : (x : ℕ) → x < j → low x ≤ b = λ x q. ltb-false b (low x) (upon x q) in
    let p : (x : ℕ) → j ≤ x → x < n → b < low x = λ x q r. ltb-true b (low x) (past x q r) in
    let o : (k : ℕ) → b ≤ k → g k ≡ f k = λ k q. outside k (λ s. omega arith) in
    let e : w ≡ own (j - 1) = aft (some low own low' own' f g n j b K jn u p o) in
    let ab : a < b = ltb-true a b ne in
    let r = resume low own low' own' f g n j b K jn u p o (i + count l) v h B.0 B.1 (omega (arith, B.2)) hl (λ s. ho s ∙ e) (rw e at t) in
    end low own low' own' f g n j b K jn u p o (i + count l + count h) r.0 r.1 r.2 tl to
finish low own low' own' f g n i j a v w l h End K jn ne upon past outside B hl ho aft t tl to =
    let e : j ≡ n = ⊎_elim (λ q. absurd (false≢true (past j (omega arith) q))) (λ q. omega arith) (lt_or_ge j n) in
    let c : count h ≡ 0 = ap count t in
    recount (i + count l + count h + (n - j)) (omega arith) B.0

-- ---- the plan

-- a flag as a number is how many bounds it puts
pub counted : (b : Bool) → bool_byte b ≡ count b
counted true = refl
counted false = refl

-- a plan made of what the searches answer is right
pub plan_right : (lows owners : List ℕ) (n : ℕ) (lo hi : Bound) (v : ℕ) (p : Plan) (j : Bool) → n ≤ length lows → Through lows n hi p.last
    → Before lows p.last lo p.first → EndsWith owners p.first v j → p.low ≡ not j
    → (0 < p.last → p.after ≡ get_or owners (p.last - 1) 0) → p.high ≡ turned hi p.after v
    → p.bounds ≡ p.first + count p.low + count p.high + (n - p.last) → Planned lows owners n lo hi v p
plan_right lows owners n lo hi v p j nl th be en el aft eh eb = record {
  ordered = be.least;
  within = th.within;
  bounds = eb;
  keeps = λ f K ne. keeps lo hi f K ne th be eh;
}
  where
    keeps : (lo hi : Bound) (f : ℕ → ℕ) → Keeps lows owners n f → below lo hi ≡ true → Through lows n hi p.last → Before lows p.last lo p.first
        → p.high ≡ turned hi p.after v → (lows' owners' : List ℕ) → p.bounds ≤ length lows' → p.bounds ≤ length owners'
        → Edited lows n p (key_of lo) (key_of hi) lows' → Edited owners n p v p.after owners' → Keeps lows' owners' p.bounds (updated lo hi v f)
    keeps End hi f K ne th be eh lows' owners' fl fo L O = absurd (false≢true ne)
    keeps (Key a) hi f K ne th be eh lows' owners' fl fo L O =
        let jn : p.last ≤ n = th.within in
        let r : (x y : ℕ) → x < y → y < p.last → get_or lows x 0 < get_or lows y 0 = λ x y s t. K.rising x y s (omega arith) in
        let jl : p.last ≤ length lows = omega arith in
        let past : (x : ℕ) → p.last ≤ x → x < n → below hi (Key (at lows x)) ≡ true = th.high nl K.rising in
        let above : (x : ℕ) → p.first ≤ x → x < n → a ≤ at lows x = λ x s t.
        ⊎_elim
        (λ w. ltb-false (at lows x) a (be.high jl r x s w))
        (λ w. omega (arith, ltb-true a (at lows x) (below_trans (Key a) hi (Key (at lows x)) ne (past x w t))))
        (lt_or_ge x p.last) in
        let B =
        begin (at lows) (at owners) (at lows') (at owners') f (updated (Key a) hi v f) n p.first a v (Under hi) (from_keeps K)
        (omega (arith, be.least))
        (λ x s. ltb-true (at lows x) a (be.low jl r x s))
        above
        (λ k s. updated_out (Key a) hi v f k (holds_false (Key a) hi k (λ q u. omega arith)))
        (λ k s u. updated_in (Key a) hi v f k (holds_true (Key a) hi k s u))
        L.before O.before p.low L.low O.low
        (λ e. en.no (not-true j (sym el ∙ e)))
        (λ e. en.yes (not-false j (sym el ∙ e))) in
        to_keeps fl fo
        (recount p.bounds eb
        (finish (at lows) (at owners) (at lows') (at owners') f (updated (Key a) hi v f) n p.first p.last a v p.after p.low p.high hi (from_keeps K) jn ne
        (th.low nl K.rising) past
        (λ k u. updated_out (Key a) hi v f k (holds_false (Key a) hi k (λ s q. u q)))
        B L.high O.high aft eh L.after O.after))
