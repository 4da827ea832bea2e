-- At the start the first host owns everything, and nothing is on its way.
-- Assumes nothing.
use mathlib.Core.Path.{◌≡◌, refl, sym, ap}
use mathlib.Core.Bool.{Bool, true, cond, ◌&&◌}
use mathlib.Core.List.{List, [], ◌∷◌}
use mathlib.Core.Option.{none, some, none-ne-some}
use Prim.Native.Nat.{ℕ}
use native.Mathlib.Omega.{arith}
use Rattle.message.specs.Message.{Address}
use Rattle.decoding.proofs.Decided.{same_refl}
use Rattle.protocol.specs.Address.{among}
use Rattle.protocol.specs.State.{fresh, start, different, short}
use Rattle.protocol.proofs.Addresses.{same_false}
use Rattle.world.specs.World.{begin}
use Rattle.world.proofs.Sums.{sum, sum2, apart, among_not, later}
use Rattle.world.proofs.Invariant.{States, bit, own, ways, total, Local, Always}

sum_none : (f : Address → ℕ) (l : List Address) → ((y : Address) → among y l ≡ true → f y ≡ 0) → sum f l ≡ 0
sum_none f [] z = refl
sum_none f (a ∷ l) z =
    let u : f a ≡ 0 = z a (rw (same_refl a) refl) in
    let v : sum f l ≡ 0 = sum_none f l (λ y e. z y (later y a l e)) in
    omega (arith, u, v)

module _ (first : Address) (others : List Address) (d : different (first ∷ others) ≡ true) where
  abbrev H : List Address
  H = first ∷ others

  abbrev S : States
  S = λ x. fresh first (first ∷ others) x

  one_begins : (k : ℕ) → total (first ∷ others) S k ≡ 1
  one_begins k =
      let u : own S k first ≡ 1 = ap bit (same_refl first) in
      let v : sum (own S k) others ≡ 0 =
      sum_none (own S k) others (λ y e. ap bit (same_false first y (λ q. among_not y first others e (apart first others d).0 (sym q)))) in
      let w : sum2 (ways S k) (first ∷ others) ≡ 0 =
      sum_none (λ a. sum (ways S k a) (first ∷ others)) (first ∷ others) (λ a e. sum_none (ways S k a) (first ∷ others) (λ b f. refl)) in
      omega (arith, u, v, w)

  local_begins : (x : Address) → Local (first ∷ others) [] x (fresh first (first ∷ others) x)
  local_begins x = record {
    me_is = refl;
    hosts_are = refl;
    owner_in = λ k. rw (same_refl first) refl;
    hosts_known = λ a e. e;
    waits_known = λ a n. absurd (n refl);
    sorted = tt;
    kept = tt;
    room_is = λ l e. absurd (none-ne-some l e);
    done = tt;
    told = tt;
    numbered = λ c. omega arith;
    outgoing = λ c. tt;
  }

  pub always_begins : Always (first ∷ others) (begin first others)
  always_begins = record {
    hosts_are = refl;
    core = record {
      local = λ x e. local_begins x;
      link = λ a b e f. record { waits = refl; order = omega arith; known = omega arith; done = refl; fair = tt };
      one = one_begins;
      right = λ k x e m. refl;
      clean = λ k x e m. refl;
      right_way = λ k a b e f. tt;
      answered = tt;
      once = tt;
    };
    net = tt;
  }

  -- these are the states that starting gives
  pub starts : short (first ∷ others) ≡ true → (x : Address) → among x (first ∷ others) ≡ true → start (first ∷ others) x ≡ some ((begin first others).state x)
  starts s x e = ap (λ (t : Bool). cond t (some (fresh first (first ∷ others) x)) none) (all_true d s e)
    where
      all_true : {p q r : Bool} → p ≡ true → q ≡ true → r ≡ true → p && (q && r) ≡ true
      all_true e f g = rw (e, f) g
