-- One host changes: what of all hosts, of all pairs of hosts, and of all claims is then as it was.
-- Assumes nothing.
use mathlib.Core.Path.{◌≡◌, refl, sym, ap, ap₂, ◌∙◌, subst}
use mathlib.Core.Bool.{Bool, true, false, cond, false≢true}
use mathlib.Core.List.{List, [], ◌∷◌, ◌++◌}
use Prim.Native.Nat.{ℕ, ◌+◌, ◌-◌}
use lib.ListN.{drop}
use Rattle.message.specs.Message.{Address, Body}
use Rattle.decoding.specs.Decode.{same}
use Rattle.decoding.proofs.Decided.{same_true, same_refl}
use Rattle.protocol.specs.Address.{among, at}
use Rattle.world.specs.Events.{noted}
use Rattle.world.specs.Claims.{mine, in_room}
use Rattle.world.proofs.Sums.{sum_same, sum2_same}
use Rattle.world.proofs.Links.{Link}
use Rattle.world.proofs.Invariant.{States, Moves, LinkOf, way, bit, own, moving, ways, total}

-- an address is the one or another
pub cases : (y x : Address) (P : Type 0) → (y ≡ x → P) → ((y ≡ x → ⊥) → P) → P
cases y x P f g = go (same y x) refl
  where
    go : (t : Bool) → same y x ≡ t → P
    go true e = f (same_true y x e)
    go false e = g (λ q. absurd (false≢true (sym e ∙ subst (λ (z : Address). same z x ≡ true) (sym q) (same_refl x))))

module _ {A : Type 0} (x : Address) (v : A) (f : Address → A) where
  pub at_cases : (P : A → Type 0) (y : Address) → (y ≡ x → P v) → ((y ≡ x → ⊥) → P (f y)) → P (at x v f y)
  at_cases P y p q = go (same y x) refl
    where
      go : (t : Bool) → same y x ≡ t → P (cond t v (f y))
      go true e = p (same_true y x e)
      go false e = q (λ w. absurd (false≢true (sym e ∙ subst (λ (z : Address). same z x ≡ true) (sym w) (same_refl x))))

  -- something that is the same in what is put at x is the same everywhere
  pub keep : {B : Type 0} (F : A → B) (y : Address) → (y ≡ x → F v ≡ F (f y)) → F (at x v f y) ≡ F (f y)
  keep F y e = at_cases (λ a. F a ≡ F (f y)) y e (λ n. refl)

  pub at_self : (y : Address) → y ≡ x → at x v f y ≡ v
  at_self y e = at_cases (λ a. a ≡ v) y (λ q. refl) (λ n. absurd (n e))

-- nothing was put anywhere
pub at_same_state : {A : Type 0} (x : Address) (f : Address → A) → at x (f x) f ≡ f
at_same_state x f = λ i y. keep x (f x) f (λ a. a) y (λ e. ap f (sym e)) i

-- a list for one pair of hosts has one more at its end
pub noted_there : (p q : Address) (b : Body) (f : Moves) → noted p q b f p q ≡ f p q ++ (b ∷ [])
noted_there p q b f =
    ap (λ (g : Address → List Body). g q) (at_self p (at q (f p q ++ (b ∷ [])) (f p)) f p refl) ∙ at_self q (f p q ++ (b ∷ [])) (f p) q refl

pub noted_else : (p q : Address) (b : Body) (f : Moves) (a c : Address) → (a ≡ p → c ≡ q → ⊥) → noted p q b f a c ≡ f a c
noted_else p q b f a c n =
    keep p (at q (f p q ++ (b ∷ [])) (f p)) f (λ g. g c) a
    (λ e. keep q (f p q ++ (b ∷ [])) (f p) (λ l. l) c (λ w. absurd (n e w)) ∙ ap (λ (z : Address). f z c) (sym e))

-- ---- a pair of hosts for which nothing has changed

pub record Cell (S : States) (M C : Moves) (S' : States) (M' C' : Moves) (a b : Address) : Type 0 where
  pub made : M' a b ≡ M a b
  pub carried : C' a b ≡ C a b
  pub waiting : (S' a).waiting b ≡ (S a).waiting b
  pub acknowledged : (S' a).acknowledged b ≡ (S a).acknowledged b
  pub received : (S' b).received a ≡ (S b).received a
  pub room : in_room a (S' b).room ≡ in_room a (S b).room

pub link_as : {M M' C C' w w' : List Body} {a a' r r' : ℕ} {R R' : List Body} → M' ≡ M → C' ≡ C → w' ≡ w → a' ≡ a → r' ≡ r → R' ≡ R
    → Link M C w a r R → Link M' C' w' a' r' R'
link_as {M} {M'} {C} {C'} {w} {w'} {a} {a'} {r} {r'} {R} {R'} m c e p q s K =
    subst (λ (l : List Body). Link l C' w' a' r' R') (sym m)
    (subst (λ (l : List Body). Link M l w' a' r' R') (sym c)
    (subst (λ (l : List Body). Link M C l a' r' R') (sym e)
    (subst (λ (n : ℕ). Link M C w n r' R') (sym p)
    (subst (λ (n : ℕ). Link M C w a n R') (sym q) (subst (λ (l : List Body). Link M C w a r l) (sym s) K)))))

pub way_as : {w w' : List Body} {a a' r r' : ℕ} {R R' : List Body} → w' ≡ w → a' ≡ a → r' ≡ r → R' ≡ R
    → R' ++ drop (r' - a') w' ≡ R ++ drop (r - a) w
way_as e p q s =
    ap₂ (λ (l m : List Body). l ++ m) s (ap₂ (λ (n : ℕ) (l : List Body). drop n l) (ap₂ (λ (r k : ℕ). r - k) q p) e)

module _ {S : States} {M C : Moves} {S' : States} {M' C' : Moves} {a b : Address} (N : Cell S M C S' M' C' a b) where
  pub cell_link : LinkOf S M C a b → LinkOf S' M' C' a b
  cell_link K = link_as N.made N.carried N.waiting N.acknowledged N.received N.room K

  pub cell_way : way S' a b ≡ way S a b
  cell_way = way_as N.waiting N.acknowledged N.received N.room

-- ---- claims

-- no host's map and nothing on its way has changed: there are as many claims as before
pub one_steady : (H : List Address) (S S' : States) (k : ℕ) → ((x : Address) → among x H ≡ true → mine (S' x) x k ≡ mine (S x) x k)
    → ((a b : Address) → among a H ≡ true → among b H ≡ true → way S' a b ≡ way S a b) → total H S' k ≡ total H S k
one_steady H S S' k o w =
    ap₂ ◌+◌
    (sum_same (own S' k) (own S k) H (λ x e. ap bit (o x e)))
    (sum2_same (ways S' k) (ways S k) H (λ a b e f. ap (λ (l : List Body). moving l k) (w a b e f)))
