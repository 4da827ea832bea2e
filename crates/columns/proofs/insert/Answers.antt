-- `columns::insert` meets its contract.
-- Assumes nothing.
use mathlib.Core.Path.{refl, ap, ◌∙◌}
use mathlib.Core.List.{List}
use Prim.Native.Nat.{ℕ}
use native.Mathlib.Omega.{arith}
use lib.ListN.{set}
use Rattle.columns.proofs.Columns.{insert_moved}
use Rattle.columns.proofs.insert.Goals as goal

pub returns : goal.returns
returns c =
    let a = c.args in
    record {
      done = λ p q. (refl, ap (λ (x : List ℕ). set x a.at a.v) c.copy_within.ensures.after ∙ insert_moved a.column.now a.n a.at a.v p q);
      refused = λ p. absurd (p (omega arith) (omega arith));
    }
