-- The law by which addresses are told apart early.
-- Assumes nothing.
use mathlib.Core.Path.{◌≡◌, sym, subst}
use mathlib.Core.List.{List}
use Prim.Native.Nat.{ℕ, ◌+◌, ◌-◌}
use lib.ListN.{length, drop}
use Rattle.format.specs.Number.{width}
use Rattle.format.specs.Format.{number}
use Rattle.format.specs.Answers.{ReadNumber}
use Rattle.std.specs.Prelude.{Some}
use Rattle.format.proofs.Reading.{only}

-- two strings whose last bytes are different numbers differ
pub numbers_differ : (a b : List ℕ) (x y : ℕ) → ReadNumber a (length a - width) (Some x) → ReadNumber b (length b - width) (Some y)
    → (x ≡ y → ⊥) → a ≡ b → ⊥
numbers_differ a b x y A B n e =
    let N = (subst (λ (l : List ℕ). ReadNumber l (length l - width) (Some y)) (sym e) B).is in
    n (sym (only {f = number} A.is y N.good (drop (length a - width + width) a) N.is).0)
