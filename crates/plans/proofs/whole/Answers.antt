-- `plans::whole` meets its contract. A range with no bound inside is one owner's; a bound inside is a change of owner.
-- Assumes nothing.
use mathlib.Core.Path.{◌≡◌, sym, ◌∙◌}
use mathlib.Core.Bool.{true, false≢true}
use native.Mathlib.Omega.{arith}
use borrow.Author.Tests.{not-false}
use Rattle.keys.specs.Bound.{below}
use Rattle.plans.proofs.Range.{whole_all, whole_lo, whole_in}
use Rattle.plans.proofs.whole.Goals as goal

pub returns-then-at-end : goal.returns-then-at-end
returns-then-at-end c =
    let a = c.args in
    let e : below a.lo a.hi ≡ true = not-false (below a.lo a.hi) (sym c.is_empty.ensures ∙ c.if-is_empty.false) in
    let at = c.through-at in
    record {
      all = λ f k t. absurd (false≢true t);
      other = λ f k t. whole_in k at.ensures c.before-end.ensures e (omega (arith, c.type_inv.lows at.result)) c.if-at-end.true;
    }

pub returns : goal.returns
returns c =
    let a = c.args in
    let e : below a.lo a.hi ≡ true = not-false (below a.lo a.hi) (sym c.is_empty.ensures ∙ c.if-is_empty.false) in
    let at = c.through-at in
    let end = c.before-end in
    record {
      all = λ f k t. whole_all k at.ensures end.ensures e c.if-at-end.false (c.ends_with.ensures.yes t).1;
      other = λ f k t. whole_lo k at.ensures end.ensures e (c.ends_with.ensures.no t);
    }
