-- Whether a whole range is v's: it is if one bound has all of it and is v's. Otherwise lo's key is another's, or the next bound's.
-- Assumes nothing.
use mathlib.Core.Path.{◌≡◌, refl, sym, ◌∙◌}
use mathlib.Core.Logic.{⊎_elim}
use mathlib.Core.Bool.{true, true≢false, false≢true}
use mathlib.Core.List.{List}
use Prim.Native.Nat.{ℕ, suc, ◌-◌, ◌^◌, ◌≤◌, ◌<◌}
use native.Mathlib.Omega.{arith}
use lib.ListN.{get_or}
use borrow.Author.Tests.{ltb-true, ltb-false, lt-ltb}
use Rattle.keys.specs.declared.Bound.{Bound}
use Rattle.keys.specs.declared.Bound.TheVariants.{Key, End}
use Rattle.keys.specs.Bound.{below, holds}
use Rattle.keys.proofs.Laws.{Under, below_le, le_below, holds_true, holds_from, holds_lo}
use Rattle.columns.proofs.Cases.{lt_or_ge, eq_or_ne}
use Rattle.delegation.specs.Map.{Keeps}
use Rattle.searches.specs.Search.{Before}
use Rattle.plans.specs.Plan.{Through}

under_below : (hi : Bound) (k : ℕ) → Under hi k → below (Key k) hi ≡ true
under_below (Key b) k u = lt-ltb k b u
under_below End k u = refl

below_under : (hi : Bound) (k : ℕ) → below (Key k) hi ≡ true → Under hi k
below_under (Key b) k e = ltb-true k b e
below_under End k e = tt

module _ (lows owners : List ℕ) (n x v a b : ℕ) (hi : Bound) (f : ℕ → ℕ) (K : Keeps lows owners n f) (th : Through lows n (Key x) a)
    (be : Before lows n hi b) (ne : below (Key x) hi ≡ true) where
  -- the last bound at or below x has x
  lo_some : 0 < a
  lo_some =
      ⊎_elim (λ w. w) (λ w. absurd (omega (arith, K.zero, ltb-true x (get_or lows 0 0) (th.high K.fits_lows K.rising 0 w K.some)))) (lt_or_ge 0 a)

  lo_owner : f x ≡ get_or owners (a - 1) 0
  lo_owner =
      let p : 0 < a = lo_some in
      let e : suc (a - 1) ≡ a = omega arith in
      K.means (a - 1) x (omega (arith, th.within)) (ltb-false x (get_or lows (a - 1) 0) (th.low K.fits_lows K.rising (a - 1) (omega arith)))
      (rw e (λ q. ltb-true x (get_or lows a 0) (th.high K.fits_lows K.rising a (omega arith) q)))

  -- no bound inside, and that one v's
  all_one : a ≡ b → get_or owners (a - 1) 0 ≡ v → (k : ℕ) → holds (Key x) hi k ≡ true → f k ≡ v
  all_one ab ov k h =
      let p : 0 < a = lo_some in
      let e : suc (a - 1) ≡ a = omega arith in
      let w = holds_from (Key x) hi k h in
      let s : get_or lows (a - 1) 0 ≤ x = ltb-false x (get_or lows (a - 1) 0) (th.low K.fits_lows K.rising (a - 1) (omega arith)) in
      let u : a < n → k < get_or lows a 0 = λ q.
      ltb-true k (get_or lows a 0)
      (below_le (Key k) hi (Key (get_or lows a 0)) (under_below hi k w.1) (be.high K.fits_lows K.rising a (omega arith) q)) in
      K.means (a - 1) k (omega (arith, th.within)) (omega (arith, w.0)) (rw e u) ∙ ov

  -- lo's key is another's
  other_lo : (get_or owners (a - 1) 0 ≡ v → ⊥) → (k : ℕ) × (k < 2 ^ 64) × (holds (Key x) hi k ≡ true) × (f k ≡ v → ⊥)
  other_lo o = (x, th.small, holds_lo x hi ne, λ e. o (sym lo_owner ∙ e))

  -- a bound lies inside
  inside : (a ≡ b → ⊥) → a < b
  inside h =
      ⊎_elim (λ w. w)
      (λ w.
      let ba : b < a = omega (arith, h) in
      absurd
      (true≢false
      (sym (le_below (Key (get_or lows b 0)) (Key x) hi (th.low K.fits_lows K.rising b ba) ne)
      ∙ be.high K.fits_lows K.rising b (omega arith) (omega (arith, th.within)))))
      (lt_or_ge a b)

  -- the bound inside is another's than the one before it
  other_in : get_or lows a 0 < 2 ^ 64 → (a ≡ b → ⊥) → (k : ℕ) × (k < 2 ^ 64) × (holds (Key x) hi k ≡ true) × (f k ≡ v → ⊥)
  other_in fit h = ⊎_elim next other_lo (eq_or_ne (get_or owners (a - 1) 0) v)
    where
      next : get_or owners (a - 1) 0 ≡ v → (k : ℕ) × (k < 2 ^ 64) × (holds (Key x) hi k ≡ true) × (f k ≡ v → ⊥)
      next o =
          let p : 0 < a = lo_some in
          let e : suc (a - 1) ≡ a = omega arith in
          let ab : a < b = inside h in
          let an : a < n = omega (arith, be.least) in
          let q : x < get_or lows a 0 = ltb-true x (get_or lows a 0) (th.high K.fits_lows K.rising a (omega arith) an) in
          let own_a : f (get_or lows a 0) ≡ get_or owners a 0 = K.means a (get_or lows a 0) an (omega arith) (λ s. K.rising a (suc a) (omega arith) s) in
          let turn : get_or owners (a - 1) 0 ≡ get_or owners a 0 → ⊥ = rw e at (K.joined (a - 1) (rw e an)) in (
            get_or lows a 0,
            fit,
            holds_true (Key x) hi (get_or lows a 0) (omega arith) (below_under hi (get_or lows a 0) (be.low K.fits_lows K.rising a ab)),
            λ s. turn (o ∙ sym s ∙ own_a),
          )

-- ---- for any lo: one that is not below hi is none

module _ {lows owners : List ℕ} {n v a b : ℕ} {lo hi : Bound} {f : ℕ → ℕ} (K : Keeps lows owners n f) where
  pub whole_all : Through lows n lo a → Before lows n hi b → below lo hi ≡ true → a ≡ b → get_or owners (a - 1) 0 ≡ v → (k : ℕ) → holds lo hi k ≡ true → f k ≡ v
  whole_all th be ne = go lo th ne
    where
      go : (lo : Bound) → Through lows n lo a → below lo hi ≡ true → a ≡ b → get_or owners (a - 1) 0 ≡ v → (k : ℕ) → holds lo hi k ≡ true → f k ≡ v
      go (Key x) th ne = all_one lows owners n x v a b hi f K th be ne
      go End th ne = absurd (false≢true ne)

  pub whole_lo : Through lows n lo a → Before lows n hi b → below lo hi ≡ true → (0 < a → get_or owners (a - 1) 0 ≡ v → ⊥)
      → (k : ℕ) × (k < 2 ^ 64) × (holds lo hi k ≡ true) × (f k ≡ v → ⊥)
  whole_lo th be ne = go lo th ne
    where
      go : (lo : Bound) → Through lows n lo a → below lo hi ≡ true → (0 < a → get_or owners (a - 1) 0 ≡ v → ⊥)
          → (k : ℕ) × (k < 2 ^ 64) × (holds lo hi k ≡ true) × (f k ≡ v → ⊥)
      go (Key x) th ne o = other_lo lows owners n x v a b hi f K th be ne (o (lo_some lows owners n x v a b hi f K th be ne))
      go End th ne o = absurd (false≢true ne)

  pub whole_in : Through lows n lo a → Before lows n hi b → below lo hi ≡ true → get_or lows a 0 < 2 ^ 64 → (a ≡ b → ⊥)
      → (k : ℕ) × (k < 2 ^ 64) × (holds lo hi k ≡ true) × (f k ≡ v → ⊥)
  whole_in th be ne = go lo th ne
    where
      go : (lo : Bound) → Through lows n lo a → below lo hi ≡ true → get_or lows a 0 < 2 ^ 64 → (a ≡ b → ⊥)
          → (k : ℕ) × (k < 2 ^ 64) × (holds lo hi k ≡ true) × (f k ≡ v → ⊥)
      go (Key x) th ne = other_in lows owners n x v a b hi f K th be ne
      go End th ne = absurd (false≢true ne)
