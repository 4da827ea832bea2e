-- A search among the bounds from `known` on, as an answer for all: those before `known` lie at or below the key, and the bound behind those that are
-- searched lies above it.
-- Assumes nothing.
use mathlib.Core.Path.{◌≡◌, ap, ◌∙◌}
use mathlib.Core.Logic.{⊎_elim}
use mathlib.Core.List.{List}
use Prim.Native.Nat.{ℕ, ◌+◌, ◌-◌, ◌≤◌, ◌<◌}
use native.Mathlib.Omega.{arith}
use lib.ListN.{length, take, drop, get_or, length-drop}
use lib.Seq.{get_or-take, get_or-drop, length-take-le}
use Rattle.columns.proofs.Cases.{lt_or_ge}
use Rattle.columns.specs.Column.{Rising, Splits, Upto}

module _ (s : List ℕ) (n key known m : ℕ) (inside : known + m < length s) (within : known + m < n) where
  some : List ℕ
  some = take m (drop known s)

  long : length some ≡ m
  unfolding some
  long = length-take-le m (drop known s) (omega (arith, length-drop known s))

  at : (i : ℕ) → i < m → get_or some i 0 ≡ get_or s (known + i) 0
  unfolding some
  at i p = get_or-take m (drop known s) i 0 p ∙ get_or-drop known s i 0

  rises : Rising s n → Rising some m
  rises w i j p q = omega (arith, at i (omega arith), at j q, w (known + i) (known + j) (omega arith) (omega arith))

  among : (r : ℕ) → ((i : ℕ) → i < known → get_or s i 0 ≤ key) → key < get_or s (known + m) 0 → Rising s n → Splits some m key r → Splits s n key (known + r)
  among r low above w p = record {
    within = omega (arith, p.within);
    low = λ i h.
        ⊎_elim (λ q. low i q)
        (λ q. let e : known + (i - known) ≡ i = omega arith in omega (arith, at (i - known) (omega (arith, p.within)), ap (λ (k : ℕ). get_or s k 0) e, p.low (i - known) (omega arith)))
        (lt_or_ge i known);
    high = λ i h l.
        ⊎_elim
        (λ q. let e : known + (i - known) ≡ i = omega arith in omega (arith, at (i - known) (omega arith), ap (λ (k : ℕ). get_or s k 0) e, p.high (i - known) (omega arith) (omega arith)))
        (λ q. ⊎_elim (λ t. omega (arith, above, w (known + m) i t l)) (λ t. let e : known + m ≡ i = omega arith in omega (arith, above, ap (λ (k : ℕ). get_or s k 0) e)) (lt_or_ge (known + m) i))
        (lt_or_ge i (known + m));
  }

  pub found : (r : ℕ) → (n ≤ length s → Rising s n → (i : ℕ) → i < known → get_or s i 0 ≤ key) → key < get_or s (known + m) 0
      → Upto (take m (drop known s)) m key r → Upto s n key (known + r)
  unfolding some
  found r low above u = record {
    within = omega (arith, u.within);
    inside = omega (arith, u.within);
    splits = λ h w. among r (low h w) above w (u.splits (omega (arith, long)) (rises w));
  }
