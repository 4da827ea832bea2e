-- `columns::rises` meets its contract. Neighbours that rise make a column that rises.
-- Assumes nothing.
use mathlib.Core.Path.{◌≡◌, sym}
use native.Mathlib.Omega.{arith}
use Prim.Native.Nat.{◌<◌, ◌+◌}
use Rattle.std.proofs.Common.{rules}
use Rattle.std.proofs.lemmas.Bool.{MatchBool-at_true, MatchBool-at_false}
use Rattle.std.proofs.lemmas.List.Sorted.{answers_always}
use lib.Dec.{ltb}
use lib.ListN.{length, take}
use lib.Seq.{get_or-take, length-take-le}
use borrow.Author.Tests.{ltb-true, ltb-false}
use Rattle.columns.proofs.Columns.{rising_next}
use Rattle.columns.proofs.rises.Goals as goal

pub returns-then-column-n : goal.returns-then-column-n
returns-then-column-n c =
    let a = c.args in
    let h = c.is_sorted_by.ensures.cases ltb (answers_always _ _ _ (λ f a r f' k. search rules)) in
    let l : length (take a.n a.column.now) ≡ a.n = length-take-le a.n a.column.now c.if-column-n.true in
    record {
      yes = λ e. (c.if-column-n.true, rising_next a.column.now a.n (λ k q. ltb-true _ _ (sym (rw (get_or-take a.n a.column.now k 0 (omega arith), get_or-take a.n a.column.now (k + 1) 0 q) at (MatchBool-at_true _ _ e h k 0 (omega arith))))));
      no = λ e p r.
          let m = MatchBool-at_false _ _ e h in
          let q : m.0 + 1 < a.n = omega (arith, m.1) in
          let f = ltb-false _ _ (sym (rw (get_or-take a.n a.column.now m.0 0 (omega arith), get_or-take a.n a.column.now (m.0 + 1) 0 q) at (m.2 0))) in
          omega (arith, f, r m.0 (m.0 + 1) (omega arith) q);
    }
