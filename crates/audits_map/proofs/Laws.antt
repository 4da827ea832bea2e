-- The map that bounds mean.
-- Assumes nothing.
use mathlib.Core.Path.{◌≡◌, ap}
use mathlib.Core.Logic.{⊎_elim}
use mathlib.Core.Bool.{Bool, cond}
use mathlib.Core.List.{List}
use Prim.Native.Nat.{ℕ, zero, suc, ◌≤◌, ◌<◌}
use native.Mathlib.Omega.{arith}
use lib.ListN.{length, get_or}
use lib.Dec.{ltb}
use borrow.Author.Tests.{lt-ltb, le-ltb}
use Rattle.columns.specs.Column.{Rising}
use Rattle.columns.proofs.Cases.{lt_or_ge}
use Rattle.delegation.specs.Map.{Keeps}
use Rattle.audits_map.specs.Answers.{Valid}
use Rattle.audits_map.specs.Inner.{Joined, Hosts, Owned}

-- the owner of the last of n bounds at or below the key
abbrev map_of : (lows owners : List ℕ) → ℕ → ℕ → ℕ
map_of lows owners zero k = 0
map_of lows owners (suc n) k = cond (ltb k (get_or lows n 0)) (map_of lows owners n k) (get_or owners n 0)

module _ (lows owners : List ℕ) where
  map_means : (n : ℕ) → Rising lows n → (i k : ℕ) → i < n → get_or lows i 0 ≤ k → (suc i < n → k < get_or lows (suc i) 0)
      → map_of lows owners n k ≡ get_or owners i 0
  map_means zero r i k h l u = absurd (omega arith)
  map_means (suc n) r i k h l u =
      ⊎_elim
      (λ q.
      let b = u (omega arith) in
      let c : k < get_or lows n 0 =
      ⊎_elim
      (λ s. omega (arith, b, r (suc i) n s (omega arith)))
      (λ s. let e : suc i ≡ n = omega arith in omega (arith, b, ap (λ (x : ℕ). get_or lows x 0) e))
      (lt_or_ge (suc i) n) in
      let fewer : Rising lows n = λ x y p s. r x y p (omega arith) in
      rw (lt-ltb k (get_or lows n 0) c) (map_means n fewer i k q l (λ s. b)))
      (λ q.
      let e : n ≡ i = omega arith in
      let c : get_or lows n 0 ≤ k = omega (arith, l, ap (λ (x : ℕ). get_or lows x 0) e) in
      rw (le-ltb k (get_or lows n 0) c) (ap (λ (x : ℕ). get_or owners x 0) e))
      (lt_or_ge i n)

  map_within : (n hosts : ℕ) → 0 < n → get_or lows 0 0 ≡ 0 → Hosts owners n hosts → (k : ℕ) → map_of lows owners n k < hosts
  map_within zero hosts p z h k = absurd (omega arith)
  map_within (suc n) hosts p z h k =
      ⊎_elim
      (λ q.
      let s : 0 < n = ⊎_elim (λ s. s) (λ s. let e : n ≡ 0 = omega arith in absurd (omega (arith, q, z, ap (λ (x : ℕ). get_or lows x 0) e))) (lt_or_ge 0 n) in
      let fewer : Hosts owners n hosts = λ i b. h i (omega arith) in
      rw (lt-ltb k (get_or lows n 0) q) (map_within n hosts s z fewer k))
      (λ q. rw (le-ltb k (get_or lows n 0) q) (h n (omega arith)))
      (lt_or_ge k (get_or lows n 0))

module _ {lows owners : List ℕ} {n hosts : ℕ} where
  -- each owner is that of its bound's own key
  owners_in : {f : ℕ → ℕ} → Keeps lows owners n f → ((k : ℕ) → f k < hosts) → Hosts owners n hosts
  owners_in {f} K h i q =
      let e = K.means i (get_or lows i 0) q (omega arith) (λ s. K.rising i (suc i) (omega arith) s) in
      omega (arith, e, h (get_or lows i 0))

  pub mapped : {r : Bool} → (0 < n) × (n ≤ length lows) × (n ≤ length owners) → get_or lows 0 0 ≡ 0 → Rising lows n → Joined owners n
      → Owned owners n hosts r → Valid lows owners n hosts r
  mapped b z s t o = record {
    yes = λ e. (
      map_of lows owners n,
      record {
        some = b.0;
        fits_lows = b.1;
        fits_owners = b.2;
        zero = z;
        rising = s;
        joined = t;
        means = map_means lows owners n s;
      },
      map_within lows owners n hosts b.0 z (o.yes e),
    );
    no = λ e f K h. o.no e (owners_in K h);
  }
