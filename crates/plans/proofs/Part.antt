-- A map kept in part: its first m bounds, right for the keys up to a limit. A list of bounds is built up from its front by the laws `cut`,
-- `widen` and `extend`, and is a whole map where the limit is none. All of it speaks of functions from a place to what stands there.
-- Assumes nothing.
use mathlib.Core.Path.{◌≡◌}
use mathlib.Core.Logic.{◌⊎◌, ⊎_elim}
use mathlib.Core.List.{List}
use Prim.Native.Nat.{ℕ, suc, ◌+◌, ◌-◌, ◌≤◌, ◌<◌}
use native.Mathlib.Omega.{arith}
use lib.ListN.{length, get_or}
use Rattle.columns.proofs.Cases.{lt_or_ge}
use Rattle.delegation.specs.Map.{Keeps}

-- the first m bounds keep g for all keys k up to a limit, `C k`
pub record Part (low own : ℕ → ℕ) (m : ℕ) (C : ℕ → Type 0) (g : ℕ → ℕ) : Type 0 where
  pub some : 0 < m
  pub zero : low 0 ≡ 0
  pub rising : (i j : ℕ) → i < j → j < m → low i < low j
  pub joined : (i : ℕ) → suc i < m → own i ≡ own (suc i) → ⊥
  pub means : (i k : ℕ) → i < m → low i ≤ k → (suc i < m → k < low (suc i)) → (m ≤ suc i → C k) → g k ≡ own i

-- no limit
abbrev pub Any : ℕ → Type 0
Any k = Unit {0}

abbrev pub at : List ℕ → ℕ → ℕ
at l x = get_or l x 0

pub from_keeps : {lows owners : List ℕ} {n : ℕ} {f : ℕ → ℕ} → Keeps lows owners n f → Part (at lows) (at owners) n Any f
from_keeps k = record {
  some = k.some;
  zero = k.zero;
  rising = k.rising;
  joined = k.joined;
  means = λ i x p q r _. k.means i x p q r;
}

pub to_keeps : {lows owners : List ℕ} {n : ℕ} {f : ℕ → ℕ} → n ≤ length lows → n ≤ length owners → Part (at lows) (at owners) n Any f
    → Keeps lows owners n f
to_keeps h l p = record {
  some = p.some;
  fits_lows = h;
  fits_owners = l;
  zero = p.zero;
  rising = p.rising;
  joined = p.joined;
  means = λ i x a b c. p.means i x a b c (λ _. tt);
}

module _ (low own : ℕ → ℕ) (m : ℕ) (C C' : ℕ → Type 0) (g : ℕ → ℕ) where
  -- one bound more, where the owner changes
  pub extend : Part low own m C g → ((k : ℕ) → k < low m → C k) → low (m - 1) < low m → (own (m - 1) ≡ own m → ⊥)
      → ((k : ℕ) → low m ≤ k → C' k → g k ≡ own m) → Part low own (m + 1) C' g
  extend p c r j e = record {
    some = omega arith;
    zero = p.zero;
    rising = λ x y h l. ⊎_elim (λ w. p.rising x y h w) (λ w. up x y h (omega arith)) (lt_or_ge y m);
    joined = λ x h. ⊎_elim (λ w. p.joined x w) (λ w. turn x (omega arith)) (lt_or_ge (suc x) m);
    means = λ x k h l u d.
        ⊎_elim
        (λ w. p.means x k w l (λ q. u (omega arith)) (λ q. c k (let t : suc x ≡ m = omega arith in rw t at (u (omega arith)))))
        (λ w. let t : x ≡ m = omega arith in rw t (e k (rw t at l) (d (omega arith))))
        (lt_or_ge x m);
  }
    where
      up : (x y : ℕ) → x < y → y ≡ m → low x < low y
      up x y h t =
          ⊎_elim
          (λ w. let q : m - 1 < m = omega arith in rw t (omega (arith, p.rising x (m - 1) w q)))
          (λ w. let s : x ≡ m - 1 = omega arith in rw (t, s) r)
          (lt_or_ge x (m - 1))

      turn : (x : ℕ) → suc x ≡ m → own x ≡ own (suc x) → ⊥
      turn x t = let s : x ≡ m - 1 = omega arith in rw (t, s) j

  -- another limit: the last bound has the keys up to it too
  pub widen : Part low own m C g → ((k : ℕ) → C' k → C k ⊎ (g k ≡ own (m - 1))) → Part low own m C' g
  widen p e = record {
    some = p.some;
    zero = p.zero;
    rising = p.rising;
    joined = p.joined;
    means = λ x k h l u d.
        ⊎_elim
        (λ w. p.means x k h l u (λ q. absurd (omega arith)))
        (λ w. let t : x ≡ m - 1 = omega arith in ⊎_elim (λ q. p.means x k h l u (λ _. q)) (λ q. rw t q) (e k (d w)))
        (lt_or_ge (suc x) m);
  }

-- the same number of bounds, written otherwise
pub recount : {low own : ℕ → ℕ} {m : ℕ} {C : ℕ → Type 0} {g : ℕ → ℕ} (m' : ℕ) → m' ≡ m → Part low own m C g → Part low own m' C g
recount m' e p = rw e p
