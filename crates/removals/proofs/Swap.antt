-- Two places of a list swapped: what stands where afterwards, and that a permutation of the slots stays one.
-- Assumes nothing.
use mathlib.Core.Path.{◌≡◌, refl, sym, ap, ◌∙◌}
use mathlib.Core.Logic.{◌⊎◌, inl, inr, ⊎_elim}
use mathlib.Core.List.{List, [], ◌∷◌}
use Prim.Native.Nat.{ℕ, ◌<◌}
use native.Mathlib.Omega.{arith}
use lib.ListN.{length, get_or, set, length-set}
use lib.Seq.{get_or-set_same, get_or-set_other}
use Rattle.std.specs.List.{swap}
use Rattle.std.proofs.lemmas.Grind.{get_or_default_zero}
use Rattle.columns.proofs.Cases.{eq_or_ne}
use Rattle.records.specs.Memory.{Slots}

-- what stood at a and what stood at b, each at the other's place
abbrev pub swapped : List ℕ → ℕ → ℕ → List ℕ
swapped l a b = set (set l a (get_or l b 0)) b (get_or l a 0)

-- the library says it with what stands at the front in place of 0
pub swap_is : (l : List ℕ) (a b : ℕ) → a < length l → b < length l → swap l a b ≡ swapped l a b
swap_is [] a b p q = absurd (omega arith)
swap_is (d ∷ l) a b p q = rw (get_or_default_zero (d ∷ l) b d q, get_or_default_zero (d ∷ l) a d p)

pub length_swapped : (l : List ℕ) (a b : ℕ) → length (swapped l a b) ≡ length l
length_swapped l a b = simp length-set

-- what stands at x stood at y
abbrev Came : ℕ → ℕ → ℕ → ℕ → Type 0
Came a b x y = ((x ≡ a) × (y ≡ b)) ⊎ (((x ≡ b) × (y ≡ a)) ⊎ ((x ≡ a → ⊥) × (x ≡ b → ⊥) × (y ≡ x)))

came_apart : (a b x y x' y' : ℕ) → Came a b x y → Came a b x' y' → y ≡ y' → x ≡ x'
came_apart a b x y x' y' (inl p) (inl q) e = omega arith
came_apart a b x y x' y' (inl p) (inr (inl q)) e = omega arith
came_apart a b x y x' y' (inl p) (inr (inr q)) e = omega arith
came_apart a b x y x' y' (inr (inl p)) (inl q) e = omega arith
came_apart a b x y x' y' (inr (inl p)) (inr (inl q)) e = omega arith
came_apart a b x y x' y' (inr (inl p)) (inr (inr q)) e = omega arith
came_apart a b x y x' y' (inr (inr p)) (inl q) e = omega arith
came_apart a b x y x' y' (inr (inr p)) (inr (inl q)) e = omega arith
came_apart a b x y x' y' (inr (inr p)) (inr (inr q)) e = omega arith

module _ (l : List ℕ) (a b : ℕ) (ha : a < length l) (hb : b < length l) where
  pub swap_second : get_or (swapped l a b) b 0 ≡ get_or l a 0
  swap_second = let h : b < length (set l a (get_or l b 0)) = simp length-set hb in get_or-set_same (set l a (get_or l b 0)) b (get_or l a 0) 0 h

  pub swap_first : get_or (swapped l a b) a 0 ≡ get_or l b 0
  swap_first =
      ⊎_elim
      (λ e. ap (λ (x : ℕ). get_or (swapped l a b) x 0) e ∙ swap_second ∙ ap (λ (x : ℕ). get_or l x 0) e)
      (λ n. get_or-set_other (set l a (get_or l b 0)) b a (get_or l a 0) 0 n ∙ get_or-set_same l a (get_or l b 0) 0 ha)
      (eq_or_ne a b)

  pub swap_other : (x : ℕ) → (x ≡ a → ⊥) → (x ≡ b → ⊥) → get_or (swapped l a b) x 0 ≡ get_or l x 0
  swap_other x p q = get_or-set_other (set l a (get_or l b 0)) b x (get_or l a 0) 0 q ∙ get_or-set_other l a x (get_or l b 0) 0 p

  from : (x : ℕ) → x < length l → (y : ℕ) × (y < length l) × (get_or (swapped l a b) x 0 ≡ get_or l y 0) × Came a b x y
  from x h =
      ⊎_elim
      (λ e. (b, hb, ap (λ (z : ℕ). get_or (swapped l a b) z 0) e ∙ swap_first, inl (e, refl)))
      (λ n. ⊎_elim
      (λ e. (a, ha, ap (λ (z : ℕ). get_or (swapped l a b) z 0) e ∙ swap_second, inr (inl (e, refl))))
      (λ m. (x, h, swap_other x n m, inr (inr (n, m, refl))))
      (eq_or_ne x b))
      (eq_or_ne x a)

  -- a permutation stays one
  pub swap_slots : Slots l → Slots (swapped l a b)
  swap_slots s =
      let same : length (swapped l a b) ≡ length l = length_swapped l a b in
      record {
        below = λ x p.
            let q : x < length l = omega arith in
            let w = from x q in
            omega (arith, w.2, s.below w.0 w.1);
        apart = λ x x' p p' e.
            let q : x < length l = omega arith in
            let q' : x' < length l = omega arith in
            let w = from x q in
            let w' = from x' q' in
            came_apart a b x w.0 x' w'.0 w.3 w'.3 (s.apart w.0 w'.0 w.1 w'.1 (sym w.2 ∙ e ∙ w'.2));
      }
