-- `columns::cut` meets its contract. Where no element goes, none moves.
-- Assumes nothing.
use mathlib.Core.Path.{◌≡◌, refl, sym, ap, ◌∙◌}
use Prim.Native.Nat.{ℕ}
use native.Mathlib.Omega.{arith}
use Rattle.columns.specs.Column.{without}
use Rattle.columns.proofs.Columns.{cut_moved, cut_none}
use Rattle.columns.proofs.cut.Goals as goal

pub returns-then-i-j : goal.returns-then-i-j
returns-then-i-j c =
    let a = c.args in
    record {
      done = λ p q r. (refl, c.copy_within.ensures.after ∙ cut_moved a.column.now a.n a.i a.j q);
      refused = λ p. absurd (p (omega arith) (omega arith) (omega arith));
    }

pub returns-else-i-j : goal.returns-else-i-j
returns-else-i-j c =
    let a = c.args in
    let e : a.j ≡ a.i = omega arith in
    record {
      done = λ p q r. (refl, sym (ap (λ (k : ℕ). without a.column.now a.n a.i k) e ∙ cut_none a.column.now a.n a.i (omega arith) r));
      refused = λ p. absurd (p (omega arith) (omega arith) (omega arith));
    }
