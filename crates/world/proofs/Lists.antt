-- Laws of lists: what holds of all elements, the nth element, and a list cut in two.
-- Assumes nothing.
use mathlib.Core.Path.{◌≡◌, refl, sym, ap, subst}
use mathlib.Core.List.{List, [], ◌∷◌, ◌++◌}
use mathlib.Core.Logic.{◌⊎◌, inl, inr, ⊎_elim}
use mathlib.Core.Option.{some, some-injective, none-ne-some}
use Prim.Native.Nat.{ℕ, zero, suc, ◌+◌, ◌≤◌, ◌<◌}
use native.Mathlib.Omega.{arith}
use lib.ListN.{length, take, drop}
use Rattle.world.specs.Events.{nth}
use Rattle.world.specs.Single.{Among}

-- ---- all elements

abbrev pub All : {A : Type 0} → (A → Type 0) → List A → Type 0
All P [] = Unit
All P (x ∷ l) = P x × All P l

module _ {A : Type 0} (P : A → Type 0) where
  pub all_append : (l m : List A) → All P l → All P m → All P (l ++ m)
  all_append [] m p q = q
  all_append (x ∷ l) m p q = (p.0, all_append l m p.1 q)

  pub all_left : (l m : List A) → All P (l ++ m) → All P l
  all_left [] m p = tt
  all_left (x ∷ l) m p = (p.0, all_left l m p.1)

  pub all_right : (l m : List A) → All P (l ++ m) → All P m
  all_right [] m p = p
  all_right (x ∷ l) m p = all_right l m p.1

  pub all_take : (n : ℕ) (l : List A) → All P l → All P (take n l)
  all_take zero l p = tt
  all_take (suc n) [] p = tt
  all_take (suc n) (x ∷ l) p = (p.0, all_take n l p.1)

  pub all_drop : (n : ℕ) (l : List A) → All P l → All P (drop n l)
  all_drop zero l p = p
  all_drop (suc n) [] p = tt
  all_drop (suc n) (x ∷ l) p = all_drop n l p.1

  pub all_nth : (n : ℕ) (l : List A) (x : A) → All P l → nth n l ≡ some x → P x
  all_nth n [] x p e = absurd (none-ne-some x e)
  all_nth zero (y ∷ l) x p e = subst P (some-injective y x e) p.0
  all_nth (suc n) (y ∷ l) x p e = all_nth n l x p.1 e

  pub all_among : (l : List A) (x : A) → All P l → Among x l → P x
  all_among [] x p q = elim q [ ]
  all_among (y ∷ l) x p (inl e) = subst P (sym e) p.0
  all_among (y ∷ l) x p (inr q) = all_among l x p.1 q

pub all_map : {A : Type 0} (P Q : A → Type 0) → ((x : A) → P x → Q x) → (l : List A) → All P l → All Q l
all_map P Q f [] p = tt
all_map P Q f (x ∷ l) p = (f x p.0, all_map P Q f l p.1)

-- ---- on the list

module _ {A : Type 0} where
  pub among_left : (x : A) (l m : List A) → Among x l → Among x (l ++ m)
  among_left x [] m a = elim a [ ]
  among_left x (y ∷ l) m (inl e) = inl e
  among_left x (y ∷ l) m (inr a) = inr (among_left x l m a)

  pub among_right : (x : A) (l m : List A) → Among x m → Among x (l ++ m)
  among_right x [] m a = a
  among_right x (y ∷ l) m a = inr (among_right x l m a)

  pub among_either : (x : A) (l m : List A) → Among x (l ++ m) → Among x l ⊎ Among x m
  among_either x [] m a = inr a
  among_either x (y ∷ l) m (inl e) = inl (inl e)
  among_either x (y ∷ l) m (inr a) = ⊎_elim (λ p. inl (inr p)) (λ p. inr p) (among_either x l m a)

-- ---- the nth element

module _ {A : Type 0} where
  pub nth_append : (n : ℕ) (l m : List A) (x : A) → nth n l ≡ some x → nth n (l ++ m) ≡ some x
  nth_append n [] m x e = absurd (none-ne-some x e)
  nth_append zero (y ∷ l) m x e = e
  nth_append (suc n) (y ∷ l) m x e = nth_append n l m x e

  pub nth_among : (n : ℕ) (l : List A) (x : A) → nth n l ≡ some x → Among x l
  nth_among n [] x e = absurd (none-ne-some x e)
  nth_among zero (y ∷ l) x e = inl (sym (some-injective y x e))
  nth_among (suc n) (y ∷ l) x e = inr (nth_among n l x e)

  pub nth_less : (n : ℕ) (l : List A) (x : A) → nth n l ≡ some x → n < length l
  nth_less n [] x e = absurd (none-ne-some x e)
  nth_less zero (y ∷ l) x e = omega arith
  nth_less (suc n) (y ∷ l) x e = omega (arith, nth_less n l x e)

  pub nth_last : (l : List A) (x : A) → nth (length l) (l ++ (x ∷ [])) ≡ some x
  nth_last [] x = refl
  nth_last (y ∷ l) x = nth_last l x

  -- the list cut before and after the nth element
  pub drop_nth : (n : ℕ) (l : List A) (x : A) → nth n l ≡ some x → drop n l ≡ x ∷ drop (suc n) l
  drop_nth n [] x e = absurd (none-ne-some x e)
  drop_nth zero (y ∷ l) x e = ap (λ (z : A). z ∷ l) (some-injective y x e)
  drop_nth (suc n) (y ∷ l) x e = drop_nth n l x e

  pub take_nth : (n : ℕ) (l : List A) (x : A) → nth n l ≡ some x → take (suc n) l ≡ take n l ++ (x ∷ [])
  take_nth n [] x e = absurd (none-ne-some x e)
  take_nth zero (y ∷ l) x e = ap (λ (z : A). z ∷ []) (some-injective y x e)
  take_nth (suc n) (y ∷ l) x e = ap (λ (t : List A). y ∷ t) (take_nth n l x e)

  pub nth_drop : (n m k : ℕ) (l : List A) → k ≡ m + n → nth n (drop m l) ≡ nth k l
  nth_drop n zero k l e = let u : n ≡ k = omega (arith, e) in ap (λ (j : ℕ). nth j l) u
  nth_drop n (suc m) zero l e = absurd (omega (arith, e))
  nth_drop n (suc m) (suc k) [] e = refl
  nth_drop n (suc m) (suc k) (y ∷ l) e = nth_drop n m k l (omega (arith, e))

  -- ---- lists cut and joined

  pub drop_drop : (n m k : ℕ) (l : List A) → k ≡ m + n → drop n (drop m l) ≡ drop k l
  drop_drop n zero k l e = let u : n ≡ k = omega (arith, e) in ap (λ (j : ℕ). drop j l) u
  drop_drop n (suc m) zero l e = absurd (omega (arith, e))
  drop_drop zero (suc m) (suc k) [] e = refl
  drop_drop (suc n) (suc m) (suc k) [] e = refl
  drop_drop n (suc m) (suc k) (y ∷ l) e = drop_drop n m k l (omega (arith, e))

  pub drop_append : (n : ℕ) (l m : List A) → n ≤ length l → drop n (l ++ m) ≡ drop n l ++ m
  drop_append zero l m h = refl
  drop_append (suc n) [] m h = absurd (omega arith)
  drop_append (suc n) (y ∷ l) m h = drop_append n l m (omega arith)

  pub take_append : (n : ℕ) (l m : List A) → n ≤ length l → take n (l ++ m) ≡ take n l
  take_append zero l m h = refl
  take_append (suc n) [] m h = absurd (omega arith)
  take_append (suc n) (y ∷ l) m h = ap (λ (t : List A). y ∷ t) (take_append n l m (omega arith))
