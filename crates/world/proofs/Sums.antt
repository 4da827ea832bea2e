-- Sums over a list of different hosts: changed at one of them, and bounded from below by one or two of them.
-- Assumes nothing.
use mathlib.Core.Path.{◌≡◌, refl, sym, ap, ◌∙◌, subst}
use mathlib.Core.Bool.{Bool, true, false, ◌||◌, ◌&&◌, not, false≢true}
use mathlib.Core.List.{List, [], ◌∷◌}
use Prim.Native.Nat.{ℕ, ◌+◌, ◌≤◌}
use native.Mathlib.Omega.{arith}
use Rattle.message.specs.Message.{Address}
use Rattle.decoding.specs.Decode.{same}
use Rattle.decoding.proofs.Decided.{same_true, same_refl}
use Rattle.protocol.specs.Address.{among}
use Rattle.protocol.specs.State.{different}

abbrev pub sum : (Address → ℕ) → List Address → ℕ
sum f [] = 0
sum f (a ∷ l) = f a + sum f l

-- what a list of different addresses says of its first and the others
pub apart : (a : Address) (l : List Address) → different (a ∷ l) ≡ true → (among a l ≡ false) × (different l ≡ true)
apart a l d = go (among a l) refl d
  where
    go : (t : Bool) → among a l ≡ t → not t && different l ≡ true → (among a l ≡ false) × (different l ≡ true)
    go true e q = absurd (false≢true q)
    go false e q = (e, q)

-- an address of a list is its first or one of the others
pub first_or : (x a : Address) (l : List Address) → among x (a ∷ l) ≡ true → (P : Type 0) → (x ≡ a → P) → (among x l ≡ true → P) → P
first_or x a l e P f g = go (same x a) refl e
  where
    go : (t : Bool) → same x a ≡ t → t || among x l ≡ true → P
    go true q w = f (same_true x a q)
    go false q w = g w

pub among_not : (x y : Address) (l : List Address) → among x l ≡ true → among y l ≡ false → x ≡ y → ⊥
among_not x y l e n q = false≢true (sym n ∙ subst (λ (z : Address). among z l ≡ true) q e)

-- one of the others is on the list
pub later : (y a : Address) (l : List Address) → among y l ≡ true → among y (a ∷ l) ≡ true
later y a l w = go (same y a)
  where
    go : (t : Bool) → t || among y l ≡ true
    go true = refl
    go false = w

pub sum_same : (f g : Address → ℕ) (l : List Address) → ((y : Address) → among y l ≡ true → f y ≡ g y) → sum f l ≡ sum g l
sum_same f g [] h = refl
sum_same f g (a ∷ l) h =
    let e : f a ≡ g a = h a (rw (same_refl a) refl) in
    let r : sum f l ≡ sum g l = sum_same f g l (λ y w. h y (later y a l w)) in
    omega (arith, e, r)

-- a sum that changes at one place only
pub sum_change : (f g : Address → ℕ) (l : List Address) (x : Address) → different l ≡ true → among x l ≡ true
    → ((y : Address) → among y l ≡ true → (y ≡ x → ⊥) → f y ≡ g y) → sum g l + f x ≡ sum f l + g x
sum_change f g [] x d e h = absurd (false≢true e)
sum_change f g (a ∷ l) x d e h =
    first_or x a l e (sum g (a ∷ l) + f x ≡ sum f (a ∷ l) + g x) first (λ w. second w (sum_change f g l x (apart a l d).1 w (λ y v n. h y (later y a l v) n)))
  where
    first : x ≡ a → sum g (a ∷ l) + f x ≡ sum f (a ∷ l) + g x
    first q =
        let r : sum f l ≡ sum g l = sum_same f g l (λ y w. h y (later y a l w) (λ z. among_not y a l w (apart a l d).0 (z ∙ q))) in
        let u : f x ≡ f a = ap f q in
        let v : g x ≡ g a = ap g q in
        omega (arith, r, u, v)

    second : among x l ≡ true → sum g l + f x ≡ sum f l + g x → sum g (a ∷ l) + f x ≡ sum f (a ∷ l) + g x
    second w r =
        let u : f a ≡ g a = h a (rw (same_refl a) refl) (λ q. among_not x a l w (apart a l d).0 (sym q)) in
        omega (arith, r, u)

-- one place counts at most as much as all
pub sum_at : (f : Address → ℕ) (l : List Address) (x : Address) → among x l ≡ true → f x ≤ sum f l
sum_at f [] x e = absurd (false≢true e)
sum_at f (a ∷ l) x e = first_or x a l e (f x ≤ sum f (a ∷ l))
    (λ q. let u : f x ≡ f a = ap f q in omega (arith, u))
    (λ w. let r : f x ≤ sum f l = sum_at f l x w in omega (arith, r))

-- .. and so do two different ones
pub sum_two : (f : Address → ℕ) (l : List Address) (x y : Address) → among x l ≡ true → among y l ≡ true → (x ≡ y → ⊥) → f x + f y ≤ sum f l
sum_two f [] x y e w n = absurd (false≢true e)
sum_two f (a ∷ l) x y e w n = first_or x a l e (f x + f y ≤ sum f (a ∷ l)) left (λ q. right q (λ z. sum_two f l x y q z n))
  where
    left : x ≡ a → f x + f y ≤ sum f (a ∷ l)
    left q = first_or y a l w (f x + f y ≤ sum f (a ∷ l)) (λ z. absurd (n (q ∙ sym z)))
        (λ z. let u : f x ≡ f a = ap f q in let r : f y ≤ sum f l = sum_at f l y z in omega (arith, u, r))

    right : among x l ≡ true → (among y l ≡ true → f x + f y ≤ sum f l) → f x + f y ≤ sum f (a ∷ l)
    right q both = first_or y a l w (f x + f y ≤ sum f (a ∷ l))
        (λ z. let u : f y ≡ f a = ap f z in let r : f x ≤ sum f l = sum_at f l x q in omega (arith, u, r))
        (λ z. let r : f x + f y ≤ sum f l = both z in omega (arith, r))

-- ---- sums over pairs

abbrev pub sum2 : (Address → Address → ℕ) → List Address → ℕ
sum2 f l = sum (λ a. sum (f a) l) l

pub sum2_same : (f g : Address → Address → ℕ) (l : List Address)
    → ((a b : Address) → among a l ≡ true → among b l ≡ true → f a b ≡ g a b) → sum2 f l ≡ sum2 g l
sum2_same f g l h = sum_same (λ a. sum (f a) l) (λ a. sum (g a) l) l (λ a w. sum_same (f a) (g a) l (λ b v. h a b w v))

pub sum2_change : (f g : Address → Address → ℕ) (l : List Address) (p q : Address) → different l ≡ true → among p l ≡ true → among q l ≡ true
    → ((a b : Address) → among a l ≡ true → among b l ≡ true → (a ≡ p → b ≡ q → ⊥) → f a b ≡ g a b)
    → sum2 g l + f p q ≡ sum2 f l + g p q
sum2_change f g l p q d e w h =
    let outer : sum2 g l + sum (f p) l ≡ sum2 f l + sum (g p) l =
    sum_change (λ a. sum (f a) l) (λ a. sum (g a) l) l p d e (λ a u n. sum_same (f a) (g a) l (λ b v. h a b u v (λ x y. n x))) in
    let inner : sum (g p) l + f p q ≡ sum (f p) l + g p q = sum_change (f p) (g p) l q d w (λ b v n. h p b e v (λ x y. n y)) in
    omega (arith, outer, inner)

pub sum2_at : (f : Address → Address → ℕ) (l : List Address) (p q : Address) → among p l ≡ true → among q l ≡ true → f p q ≤ sum2 f l
sum2_at f l p q e w =
    let u : f p q ≤ sum (f p) l = sum_at (f p) l q w in
    let v : sum (f p) l ≤ sum2 f l = sum_at (λ a. sum (f a) l) l p e in
    omega (arith, u, v)
