-- The test for a whole range is right: it holds exactly if every key of the range is that host's.
-- Assumes nothing.
use mathlib.Core.Path.{◌≡◌, refl, ap₂, ◌∙◌, subst}
use mathlib.Core.Bool.{Bool, true, false, cond, not, ◌&&◌, ◌||◌, and-eq-true_iff, false≢true}
use mathlib.Core.List.{List, [], ◌∷◌}
use Prim.Native.Nat.{ℕ, zero, suc}
use native.Mathlib.Omega.{arith}
use lib.Dec.{eqb, ltb}
use borrow.Author.Tests.{eqb-true, eqb-false, ltb-true, ltb-false, lt-ltb, le-ltb}
use Rattle.keys.specs.declared.Bound.{Bound}
use Rattle.keys.specs.declared.Bound.TheVariants.{Key, End}
use Rattle.keys.specs.Bound.{below, holds}
use Rattle.keys.proofs.Laws.{From, Under, holds_from, holds_true}
use Rattle.message.specs.Message.{Address}
use Rattle.decoding.specs.Decode.{same}
use Rattle.decoding.proofs.Decided.{same_true, same_refl}
use Rattle.protocol.specs.Owners.{Grant, Owners, newest, owner_of, key_in, edges, whole}
use Rattle.protocol.proofs.Addresses.{neither}

-- ---- where the owner can change

-- the bound is the key
abbrev is_at : Bound → ℕ → Bool
is_at (Key m) k = eqb m k
is_at End k = false

abbrev on_edge : List Grant → ℕ → Bool
on_edge [] k = false
on_edge (g ∷ l) k = is_at g.lo k || (is_at g.hi k || on_edge l k)

-- a key and the next lie on the same side of a bound that is not at the next
below_step : (b : Bound) (k : ℕ) → is_at b (suc k) ≡ false → below (Key (suc k)) b ≡ below (Key k) b
below_step End k e = refl
below_step (Key m) k e = go (ltb k m) refl
  where
    go : (t : Bool) → ltb k m ≡ t → ltb (suc k) m ≡ t
    go true q = lt-ltb (suc k) m (omega (arith, ltb-true k m q, eqb-false m (suc k) e))
    go false q = le-ltb (suc k) m (omega (arith, ltb-false k m q))

holds_step : (lo hi : Bound) (k : ℕ) → is_at lo (suc k) ≡ false → is_at hi (suc k) ≡ false → holds lo hi (suc k) ≡ holds lo hi k
holds_step lo hi k p q = ap₂ (λ (x y : Bool). not x && y) (below_step lo k p) (below_step hi k q)

newest_step : (first : Address) (l : List Grant) (k : ℕ) → on_edge l (suc k) ≡ false → newest first l (suc k) ≡ newest first l k
newest_step first [] k e = refl
newest_step first (g ∷ l) k e =
    let u = neither (is_at g.lo (suc k)) (is_at g.hi (suc k) || on_edge l (suc k)) e in
    let w = neither (is_at g.hi (suc k)) (on_edge l (suc k)) u.1 in
    ap₂ (λ (t : Bool) (x : Address). cond t g.to x) (holds_step g.lo g.hi k u.0 w.0) (newest_step first l k w.1)

-- ---- what the test says at such a key

module _ (lo hi : Bound) (a : Address) (o : Owners) where
  key_owner : (b : Bound) (k : ℕ) → is_at b k ≡ true → key_in lo hi b a o ≡ true → holds lo hi k ≡ true → owner_of o k ≡ a
  key_owner End k e t h = absurd (false≢true e)
  key_owner (Key m) k e t h =
      let q : m ≡ k = eqb-true m k e in
      let t' : not (holds lo hi k) || same (owner_of o k) a ≡ true = subst (λ (x : ℕ). not (holds lo hi x) || same (owner_of o x) a ≡ true) q t in
      same_true (owner_of o k) a (subst (λ (x : Bool). not x || same (owner_of o k) a ≡ true) h t')

  edge_owner : (l : List Grant) (k : ℕ) → on_edge l k ≡ true → edges lo hi l a o ≡ true → holds lo hi k ≡ true → owner_of o k ≡ a
  edge_owner [] k e t h = absurd (false≢true e)
  edge_owner (g ∷ l) k e t h =
      let u = (and-eq-true_iff (key_in lo hi g.lo a o) (key_in lo hi g.hi a o && edges lo hi l a o)).0 t in
      let w = (and-eq-true_iff (key_in lo hi g.hi a o) (edges lo hi l a o)).0 u.1 in
      first (is_at g.lo k) refl e u.0 (second (is_at g.hi k) refl w.0 (λ d. edge_owner l k d w.1 h))
    where
      second : (t : Bool) → is_at g.hi k ≡ t → key_in lo hi g.hi a o ≡ true → (on_edge l k ≡ true → owner_of o k ≡ a)
          → is_at g.hi k || on_edge l k ≡ true → owner_of o k ≡ a
      second true p q r d = key_owner g.hi k p q h
      second false p q r d = r (subst (λ (x : Bool). x || on_edge l k ≡ true) p d)

      first : (t : Bool) → is_at g.lo k ≡ t → is_at g.lo k || (is_at g.hi k || on_edge l k) ≡ true → key_in lo hi g.lo a o ≡ true
          → (is_at g.hi k || on_edge l k ≡ true → owner_of o k ≡ a) → owner_of o k ≡ a
      first true p d q r = key_owner g.lo k p q h
      first false p d q r = r (subst (λ (x : Bool). x || (is_at g.hi k || on_edge l k) ≡ true) p d)

  -- the range's first key is its lower bound
  first_key : holds lo hi 0 ≡ true → is_at lo 0 ≡ true
  first_key h = go lo (holds_from lo hi 0 h).0
    where
      go : (b : Bound) → From b 0 → is_at b 0 ≡ true
      go (Key m) p = let e : m ≡ 0 = omega (arith, p) in rw e refl
      go End p = absurd p

  -- the key before one that is not the first
  before_key : (k : ℕ) → holds lo hi (suc k) ≡ true → is_at lo (suc k) ≡ false → holds lo hi k ≡ true
  before_key k h e = let u = holds_from lo hi (suc k) h in holds_true lo hi k (low lo u.0 e) (high hi u.1)
    where
      low : (b : Bound) → From b (suc k) → is_at b (suc k) ≡ false → From b k
      low (Key m) p q = omega (arith, p, eqb-false m (suc k) q)
      low End p q = p

      high : (b : Bound) → Under b (suc k) → Under b k
      high (Key m) p = omega (arith, p)
      high End p = p

  pub whole_all : whole lo hi a o ≡ true → (k : ℕ) → holds lo hi k ≡ true → owner_of o k ≡ a
  whole_all t k h = go k h
    where
      u : (key_in lo hi lo a o ≡ true) × (edges lo hi o.grants a o ≡ true)
      u = (and-eq-true_iff (key_in lo hi lo a o) (edges lo hi o.grants a o)).0 t

      inner : (k : ℕ) (e : Bool) → on_edge o.grants (suc k) ≡ e → holds lo hi (suc k) ≡ true → owner_of o k ≡ a → owner_of o (suc k) ≡ a
      inner k true e h before = edge_owner o.grants (suc k) e u.1 h
      inner k false e h before = newest_step o.first o.grants k e ∙ before

      outer : (k : ℕ) (e : Bool) → is_at lo (suc k) ≡ e → holds lo hi (suc k) ≡ true → (holds lo hi k ≡ true → owner_of o k ≡ a) → owner_of o (suc k) ≡ a
      outer k true e h before = key_owner lo (suc k) e u.0 h
      outer k false e h before = inner k (on_edge o.grants (suc k)) refl h (before (before_key k h e))

      go : (k : ℕ) → holds lo hi k ≡ true → owner_of o k ≡ a
      go zero h = key_owner lo 0 (first_key h) u.0 h
      go (suc k) h = outer k (is_at lo (suc k)) refl h (go k)

  -- ---- and the other way round

  key_in_lem : ((k : ℕ) → holds lo hi k ≡ true → owner_of o k ≡ a) → (b : Bound) → key_in lo hi b a o ≡ true
  key_in_lem all End = refl
  key_in_lem all (Key k) = go (holds lo hi k) refl
    where
      go : (t : Bool) → holds lo hi k ≡ t → not (holds lo hi k) || same (owner_of o k) a ≡ true
      go true e = rw (e, all k e) (same_refl a)
      go false e = rw e refl

  pub all_whole : ((k : ℕ) → holds lo hi k ≡ true → owner_of o k ≡ a) → whole lo hi a o ≡ true
  all_whole all = (and-eq-true_iff (key_in lo hi lo a o) (edges lo hi o.grants a o)).1 (key_in_lem all lo, go o.grants)
    where
      go : (l : List Grant) → edges lo hi l a o ≡ true
      go [] = refl
      go (g ∷ l) =
          (and-eq-true_iff (key_in lo hi g.lo a o) (key_in lo hi g.hi a o && edges lo hi l a o)).1
          (key_in_lem all g.lo, (and-eq-true_iff (key_in lo hi g.hi a o) (edges lo hi l a o)).1 (key_in_lem all g.hi, go l))
