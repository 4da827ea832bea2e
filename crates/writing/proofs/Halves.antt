-- A number that is written by halves.
-- Assumes nothing.
use mathlib.Core.Path.{◌≡◌, sym, ap, ◌∙◌}
use mathlib.Core.List.{List, ◌++◌}
use Prim.Native.Nat.{ℕ, ◌+◌, ◌/◌, ◌^◌, ◌≤◌}
use native.Mathlib.Omega.{arith}
use lib.ListN.{length}
use Rattle.memory.specs.Bytes.{placed}
use Rattle.memory.proofs.Parts.{placed_then}
use Rattle.format.specs.Number.{base, digits}
use Rattle.format.proofs.Numbers.{length_digits, digits_add}

-- the lower k bytes, then the upper k behind them
pub halves : (k m n : ℕ) (d d₁ d₂ : List ℕ) (at : ℕ) → m ≡ base ^ k → at + (k + k) ≤ length d
    → d₁ ≡ placed d at (digits k n) → d₂ ≡ placed d₁ (at + k) (digits k (n / m)) → d₂ ≡ placed d at (digits (k + k) n)
halves k m n d d₁ d₂ at e h p q =
    let a = length_digits k n in
    let b = length_digits k (n / m) in
    q
    ∙ ap (λ (x : List ℕ). placed x (at + k) (digits k (n / m))) p
    ∙ ap (λ (j : ℕ). placed (placed d at (digits k n)) (at + j) (digits k (n / m))) (sym a)
    ∙ placed_then d at (digits k n) (digits k (n / m)) (omega (arith, a, b))
    ∙ ap (placed d at) (ap (λ (x : ℕ). digits k n ++ digits k (n / x)) e ∙ sym (digits_add k k n))
