-- A range is given to another, and a claim moves from one place to another: what that leaves as it was.
-- Assumes nothing.
use mathlib.Core.Path.{◌≡◌, refl, sym, ap, subst}
use mathlib.Core.Bool.{Bool, true, false, cond}
use mathlib.Core.List.{List}
use Prim.Native.Nat.{ℕ, ◌+◌}
use native.Mathlib.Omega.{arith}
use Rattle.keys.specs.declared.Bound.{Bound}
use Rattle.keys.specs.Bound.{holds}
use Rattle.message.specs.Message.{Address, Body}
use Rattle.protocol.specs.Address.{among}
use Rattle.protocol.specs.Owners.{Owners, owner_of, giving}
use Rattle.protocol.specs.State.{different}
use Rattle.world.proofs.Sums.{sum, sum2, sum_change, sum2_change}
use Rattle.world.proofs.Invariant.{States, way, own, moving, ways, total}
use Rattle.world.proofs.Changes.{cases}

-- ---- the map after a range was given away

-- who owns a key then
pub given_in : (lo hi : Bound) (a : Address) (o : Owners) (k : ℕ) → holds lo hi k ≡ true → owner_of (giving lo hi a o) k ≡ a
given_in lo hi a o k e = rw e refl

pub given_out : (lo hi : Bound) (a : Address) (o : Owners) (k : ℕ) → holds lo hi k ≡ false → owner_of (giving lo hi a o) k ≡ owner_of o k
given_out lo hi a o k e = rw e refl

-- .. a host, if all owners were and the new one is
pub given_host : (H : List Address) (lo hi : Bound) (a : Address) (o : Owners) → among a H ≡ true → ((k : ℕ) → among (owner_of o k) H ≡ true)
    → (k : ℕ) → among (owner_of (giving lo hi a o) k) H ≡ true
given_host H lo hi a o e f k = go (holds lo hi k)
  where
    go : (t : Bool) → among (cond t a (owner_of o k)) H ≡ true
    go true = e
    go false = f k

-- a test says yes or no
pub test : (t : Bool) (P : Type 0) → (t ≡ true → P) → (t ≡ false → P) → P
test true P f g = f refl
test false P f g = g refl

-- ---- claims when one host's map and one way change

module _ (H : List Address) (S S' : States) (x p q : Address) (d : different H ≡ true) (ex : among x H ≡ true) (ep : among p H ≡ true)
    (eq : among q H ≡ true) where
  -- what one gains the other loses
  pub one_moved : (k : ℕ) → ((y : Address) → (y ≡ x → ⊥) → own S k y ≡ own S' k y)
      → ((a b : Address) → among a H ≡ true → among b H ≡ true → (a ≡ p → b ≡ q → ⊥) → way S' a b ≡ way S a b)
      → own S' k x + ways S' k p q ≡ own S k x + ways S k p q → total H S' k ≡ total H S k
  one_moved k o w e =
      let u : sum (own S' k) H + own S k x ≡ sum (own S k) H + own S' k x = sum_change (own S k) (own S' k) H x d ex (λ y f n. o y n) in
      let v : sum2 (ways S' k) H + ways S k p q ≡ sum2 (ways S k) H + ways S' k p q =
      sum2_change (ways S k) (ways S' k) H p q d ep eq (λ a b f g n. ap (λ (l : List Body). moving l k) (sym (w a b f g n))) in
      omega (arith, u, v, e)

-- the pair (p, q), or another
pub pair_cases : (a b p q : Address) (P : Address → Address → Type 0) → P p q → ((a ≡ p → b ≡ q → ⊥) → P a b) → P a b
pair_cases a b p q P f g =
    cases a p (P a b)
    (λ u.
    cases b q (P a b)
    (λ v. subst (λ (z : Address). P z b) (sym u) (subst (λ (z : Address). P p z) (sym v) f))
    (λ v. g (λ s t. v t)))
    (λ u. g (λ s t. u s))
