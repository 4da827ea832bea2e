-- `bounding::bounds_after` meets its contract. It is the plan's own number, whatever is lent.
-- Assumes nothing.
use mathlib.Core.Path.{sym, ◌∙◌}
use borrow.Author.Tests.{not-false}
use Rattle.keys.specs.Bound.{below}
use Rattle.bounding.proofs.Takes.{planned_takes}
use Rattle.bounding.proofs.bounds_after.Goals as goal

pub returns : goal.returns
returns c =
    let a = c.args in
    record { is = λ f k. planned_takes c.planned-plan.ensures k (not-false (below a.lo a.hi) (sym c.is_empty.ensures ∙ c.if-is_empty.false)) }
