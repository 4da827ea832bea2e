-- Claims, counted: a key that is one host's is no other's, and no transfer's.
-- Assumes nothing.
use mathlib.Core.Path.{◌≡◌, sym, ap}
use mathlib.Core.Bool.{true, false}
use mathlib.Core.List.{List, [], ◌∷◌, ◌++◌}
use Prim.Native.Nat.{ℕ, ◌+◌, ◌≤◌}
use native.Mathlib.Omega.{arith}
use Rattle.message.specs.Message.{Address, Body}
use Rattle.protocol.specs.Address.{among}
use Rattle.world.specs.Claims.{mine, moves}
use Rattle.world.proofs.Lists.{All}
use Rattle.world.proofs.Sums.{sum, sum2, sum_at, sum_two, sum2_at}
use Rattle.world.proofs.Invariant.{States, way, bit, own, moving, ways, total}

pub own_one : (S : States) (k : ℕ) (x : Address) → mine (S x) x k ≡ true → own S k x ≡ 1
own_one S k x m = ap bit m

pub own_none : (S : States) (k : ℕ) (x : Address) → mine (S x) x k ≡ false → own S k x ≡ 0
own_none S k x m = ap bit m

pub moving_append : (l m : List Body) (k : ℕ) → moving (l ++ m) k ≡ moving l k + moving m k
moving_append [] m k = let e : moving m k ≡ 0 + moving m k = omega arith in e
moving_append (b ∷ l) m k = let r : moving (l ++ m) k ≡ moving l k + moving m k = moving_append l m k in omega (arith, r)

-- nothing of the key is among those that move none
pub moving_none : (l : List Body) (k : ℕ) → moving l k ≡ 0 → All (λ m. moves m k ≡ true → ⊥) l
moving_none [] k e = tt
moving_none (b ∷ l) k e = ((λ m. let u : bit (moves b k) ≡ 1 = ap bit m in omega (arith, u, e)), moving_none l k (omega (arith, e)))

module _ (H : List Address) (S : States) (k : ℕ) (one : total H S k ≡ 1) (x : Address) (isHost : among x H ≡ true) (m : mine (S x) x k ≡ true) where
  -- no other host has it
  pub no_other : (y : Address) → among y H ≡ true → (y ≡ x → ⊥) → mine (S y) y k ≡ true → ⊥
  no_other y e n w =
      let t : own S k x + own S k y ≤ sum (own S k) H = sum_two (own S k) H x y isHost e (λ q. n (sym q)) in
      omega (arith, t, one, own_one S k x m, own_one S k y w)

  -- and no transfer
  pub no_transfer : (a b : Address) → among a H ≡ true → among b H ≡ true → All (λ c. moves c k ≡ true → ⊥) (way S a b)
  no_transfer a b e f =
      let s : own S k x ≤ sum (own S k) H = sum_at (own S k) H x isHost in
      let t : ways S k a b ≤ sum2 (ways S k) H = sum2_at (ways S k) H a b e f in
      moving_none (way S a b) k (omega (arith, s, t, one, own_one S k x m))
