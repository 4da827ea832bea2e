-- The laws of bounds, ranges and their order. Upstream's laws of the order (keys_t, `zero_properties` and `cmp_properties`) are here for
-- bounds, so for keys too: each law's comment has upstream's clause where there is one.
-- Assumes nothing.
use mathlib.Core.Path.{◌≡◌, refl, sym, ap, ◌∙◌}
use mathlib.Core.Logic.{◌⊎◌, inl, inr, ⊎_elim, ◌↔◌}
use mathlib.Core.Bool.{Bool, true, false, true≢false, false≢true}
use Prim.Native.Nat.{ℕ, ◌<◌, ◌≤◌}
use native.Mathlib.Omega.{arith}
use lib.Dec.{ltb}
use borrow.Author.Tests.{ltb-true, ltb-false, lt-ltb, le-ltb}
use Rattle.keys.specs.Bound.{below, holds, order}
use Rattle.keys.specs.declared.Bound.{Bound}
use Rattle.keys.specs.declared.Bound.TheVariants.{Key, End}
use Rattle.std.specs.declared.cmp.Ordering.TheVariants.{Less, Equal, Greater}

-- ---- the order

-- no bound lies below itself
pub below_irrefl : (a : Bound) → below a a ≡ false
below_irrefl (Key a) = le-ltb a a (omega arith)
below_irrefl End = refl

-- upstream: transitivity of inequality
pub below_trans : (a b c : Bound) → below a b ≡ true → below b c ≡ true → below a c ≡ true
below_trans (Key a) (Key b) (Key c) p q = lt-ltb a c (omega (arith, ltb-true a b p, ltb-true b c q))
below_trans (Key a) (Key b) End p q = refl
below_trans (Key a) End c p q = absurd (false≢true q)
below_trans End b c p q = absurd (false≢true p)

-- upstream: lt then le is lt. "b is at most c" is "c does not lie below b"
pub below_le : (a b c : Bound) → below a b ≡ true → below c b ≡ false → below a c ≡ true
below_le (Key a) (Key b) (Key c) p q = lt-ltb a c (omega (arith, ltb-true a b p, ltb-false c b q))
below_le (Key a) (Key b) End p q = refl
below_le (Key a) End (Key c) p q = absurd (true≢false q)
below_le (Key a) End End p q = refl
below_le End b c p q = absurd (false≢true p)

-- upstream: le then lt is lt
pub le_below : (a b c : Bound) → below b a ≡ false → below b c ≡ true → below a c ≡ true
le_below (Key a) (Key b) (Key c) p q = lt-ltb a c (omega (arith, ltb-false b a p, ltb-true b c q))
le_below (Key a) (Key b) End p q = refl
le_below (Key a) End c p q = absurd (false≢true q)
le_below End (Key b) c p q = absurd (true≢false p)
le_below End End c p q = q

-- what lies below is not above
pub below_asym : (a b : Bound) → below a b ≡ true → below b a ≡ false
below_asym (Key a) (Key b) p = le-ltb b a (omega (arith, ltb-true a b p))
below_asym (Key a) End p = refl
below_asym End b p = absurd (false≢true p)

-- upstream: connected. Of two bounds one lies below the other, or they are equal
pub below_connected : (a b : Bound) → (below a b ≡ true) ⊎ ((below b a ≡ true) ⊎ (a ≡ b))
below_connected (Key a) (Key b) = go (ltb a b) (ltb b a) refl refl
  where
    go : (p q : Bool) → ltb a b ≡ p → ltb b a ≡ q → (ltb a b ≡ true) ⊎ ((ltb b a ≡ true) ⊎ (Key a ≡ Key b))
    go true q e f = inl e
    go false true e f = inr (inl f)
    go false false e f = let same : a ≡ b = omega (arith, ltb-false a b e, ltb-false b a f) in inr (inr (ap Key same))
below_connected (Key a) End = inl refl
below_connected End (Key b) = inr (inl refl)
below_connected End End = inr (inr refl)

-- upstream: zero_properties. The key 0 lies below every other key
pub zero_least : (k : ℕ) → (k ≡ 0 → ⊥) → below (Key 0) (Key k) ≡ true
zero_least k h = lt-ltb 0 k (omega (arith, h))

-- end is above every key, the key 2 ^ 64 - 1 among them, and nothing is above end
pub end_above : (k : ℕ) → below (Key k) End ≡ true
end_above k = refl

pub end_top : (b : Bound) → below End b ≡ false
end_top b = refl

-- ---- the three answers of `order`

pub order_less : (a b : Bound) → below a b ≡ true → order a b ≡ Less
order_less a b p = simp p

pub order_greater : (a b : Bound) → below b a ≡ true → order a b ≡ Greater
order_greater a b p = simp (below_asym b a p, p)

-- upstream: reflexivity of equality
pub order_refl : (a : Bound) → order a a ≡ Equal
order_refl a = simp (below_irrefl a)

pub less_order : (a b : Bound) → order a b ≡ Less → below a b ≡ true
less_order a b p = go (below_connected a b)
  where
    go : (below a b ≡ true) ⊎ ((below b a ≡ true) ⊎ (a ≡ b)) → below a b ≡ true
    go (inl e) = e
    go (inr (inl e)) = let z : ◌≡◌ {A = ℕ} 0 1 = cc (order_greater a b e) in absurd (omega arith)
    go (inr (inr e)) = let z : ◌≡◌ {A = ℕ} 0 1 = cc (order_refl b, ap (λ (x : Bound). order x b) e) in absurd (omega arith)

-- upstream: a == b <==> eq; with `order_refl`
pub equal_order : (a b : Bound) → order a b ≡ Equal → a ≡ b
equal_order a b p = go (below_connected a b)
  where
    go : (below a b ≡ true) ⊎ ((below b a ≡ true) ⊎ (a ≡ b)) → a ≡ b
    go (inl e) = let z : ◌≡◌ {A = ℕ} 0 1 = cc (order_less a b e) in absurd (omega arith)
    go (inr (inl e)) = let z : ◌≡◌ {A = ℕ} 0 1 = cc (order_greater a b e) in absurd (omega arith)
    go (inr (inr e)) = e

pub greater_order : (a b : Bound) → order a b ≡ Greater → below b a ≡ true
greater_order a b p = go (below_connected a b)
  where
    go : (below a b ≡ true) ⊎ ((below b a ≡ true) ⊎ (a ≡ b)) → below b a ≡ true
    go (inl e) = let z : ◌≡◌ {A = ℕ} 0 1 = cc (order_less a b e) in absurd (omega arith)
    go (inr (inl e)) = e
    go (inr (inr e)) = let z : ◌≡◌ {A = ℕ} 0 1 = cc (order_refl b, ap (λ (x : Bound). order x b) e) in absurd (omega arith)

-- upstream: commutativity and transitivity of equality, inequality is asymmetric
pub order_sym : (a b : Bound) → order a b ≡ Equal → order b a ≡ Equal
order_sym a b p = rw (equal_order a b p) (order_refl b)

pub order_trans : (a b c : Bound) → order a b ≡ Equal → order b c ≡ Equal → order a c ≡ Equal
order_trans a b c p q = rw (equal_order a b p) q

pub order_flip : (a b : Bound) → (order a b ≡ Less) ↔ (order b a ≡ Greater)
order_flip a b = ((λ p. order_greater b a (less_order a b p)), (λ p. order_less a b (greater_order b a p)))

-- ---- upstream's clauses about `order` in its own words, where the laws above speak of `below`. "At most" is "not Greater"

-- upstream: zero_properties
pub zero_less : (k : ℕ) → (k ≡ 0 → ⊥) → order (Key 0) (Key k) ≡ Less
zero_less k h = order_less (Key 0) (Key k) (zero_least k h)

-- upstream: connected
pub order_connected : (a b : Bound) → (order a b ≡ Equal → ⊥) → (order a b ≡ Less) ⊎ (order b a ≡ Less)
order_connected a b n = go (below_connected a b)
  where
    go : (below a b ≡ true) ⊎ ((below b a ≡ true) ⊎ (a ≡ b)) → (order a b ≡ Less) ⊎ (order b a ≡ Less)
    go (inl e) = inl (order_less a b e)
    go (inr (inl e)) = inr (order_less b a e)
    go (inr (inr e)) = absurd (n (rw e (order_refl b)))

-- what is not Greater is not above
not_above : (a b : Bound) → (order a b ≡ Greater → ⊥) → below b a ≡ false
not_above a b n = go (below b a) refl
  where
    go : (t : Bool) → below b a ≡ t → below b a ≡ false
    go true e = absurd (n (order_greater a b e))
    go false e = e

-- upstream: transitivity of inequality, in its three forms
pub less_trans : (a b c : Bound) → order a b ≡ Less → order b c ≡ Less → order a c ≡ Less
less_trans a b c p q = order_less a c (below_trans a b c (less_order a b p) (less_order b c q))

pub less_le : (a b c : Bound) → order a b ≡ Less → (order b c ≡ Greater → ⊥) → order a c ≡ Less
less_le a b c p n = order_less a c (below_le a b c (less_order a b p) (not_above b c n))

pub le_less : (a b c : Bound) → (order a b ≡ Greater → ⊥) → order b c ≡ Less → order a c ≡ Less
le_less a b c n q = order_less a c (le_below a b c (not_above a b n) (less_order b c q))

-- ---- ranges

-- k is at lo or above it; k lies under hi: the two halves of `holds`, as facts on numbers
abbrev pub From : Bound → ℕ → Type 0
From (Key a) k = a ≤ k
From End k = ⊥

abbrev pub Under : Bound → ℕ → Type 0
Under (Key b) k = k < b
Under End k = Unit {0}

-- `holds` as facts: either the key is in the range, from lo and under hi, or it is not and one of the two fails
pub holds_cases : (lo hi : Bound) (k : ℕ)
    → ((holds lo hi k ≡ true) × From lo k × Under hi k) ⊎ ((holds lo hi k ≡ false) × (From lo k → Under hi k → ⊥))
holds_cases End hi k = inr (refl, λ f u. f)
holds_cases (Key a) End k = go (ltb k a) refl
  where
    go : (t : Bool) → ltb k a ≡ t → ((holds (Key a) End k ≡ true) × (a ≤ k) × Unit {0}) ⊎ ((holds (Key a) End k ≡ false) × (a ≤ k → Unit {0} → ⊥))
    go true e = inr (simp e, λ f u. omega (arith, ltb-true k a e))
    go false e = inl (simp e, ltb-false k a e, tt)
holds_cases (Key a) (Key b) k = go (ltb k a) (ltb k b) refl refl
  where
    go : (t u : Bool) → ltb k a ≡ t → ltb k b ≡ u
        → ((holds (Key a) (Key b) k ≡ true) × (a ≤ k) × (k < b)) ⊎ ((holds (Key a) (Key b) k ≡ false) × (a ≤ k → k < b → ⊥))
    go true u e f = inr (simp e, λ p q. omega (arith, ltb-true k a e))
    go false true e f = inl (simp (e, f), ltb-false k a e, ltb-true k b f)
    go false false e f = inr (simp (e, f), λ p q. omega (arith, ltb-false k b f))

pub holds_true : (lo hi : Bound) (k : ℕ) → From lo k → Under hi k → holds lo hi k ≡ true
holds_true lo hi k f u = ⊎_elim (λ w. w.0) (λ w. absurd (w.1 f u)) (holds_cases lo hi k)

pub holds_false : (lo hi : Bound) (k : ℕ) → (From lo k → Under hi k → ⊥) → holds lo hi k ≡ false
holds_false lo hi k n = ⊎_elim (λ w. absurd (n w.1 w.2)) (λ w. w.0) (holds_cases lo hi k)

pub holds_from : (lo hi : Bound) (k : ℕ) → holds lo hi k ≡ true → From lo k × Under hi k
holds_from lo hi k e = ⊎_elim (λ w. (w.1, w.2)) (λ w. absurd (true≢false (sym e ∙ w.0))) (holds_cases lo hi k)

-- a range is empty exactly if lo does not lie below hi: then it holds no key, and otherwise it holds lo's
pub holds_empty : (lo hi : Bound) (k : ℕ) → below lo hi ≡ false → holds lo hi k ≡ false
holds_empty (Key a) (Key b) k e = holds_false (Key a) (Key b) k (λ p q. omega (arith, ltb-false a b e))
holds_empty (Key a) End k e = absurd (true≢false e)
holds_empty End hi k e = refl

pub holds_lo : (a : ℕ) (hi : Bound) → below (Key a) hi ≡ true → holds (Key a) hi a ≡ true
holds_lo a (Key b) e = holds_true (Key a) (Key b) a (omega arith) (ltb-true a b e)
holds_lo a End e = holds_true (Key a) End a (omega arith) tt

pub holds_nonempty : (lo hi : Bound) → below lo hi ≡ true → (k : ℕ) × (holds lo hi k ≡ true)
holds_nonempty (Key a) hi e = (a, holds_lo a hi e)
holds_nonempty End hi e = absurd (false≢true e)

-- the range from the key 0 to end holds every key
pub holds_all : (k : ℕ) → holds (Key 0) End k ≡ true
holds_all k = holds_true (Key 0) End k (omega arith) tt
