-- `plans::planned` meets its contract. The plan is made of what the searches answer; `plan_right` says that it is right. Where n bounds do not fit there is no map.
-- Assumes nothing.
use mathlib.Core.Path.{refl, ◌∙◌}
use mathlib.Core.Bool.{not}
use native.Mathlib.Omega.{arith}
use Rattle.plans.proofs.Change.{plan_right, counted}
use Rattle.plans.proofs.planned.Goals as goal

pub returns : goal.returns
returns c =
    let a = c.args in
    let l = c.from.ensures ∙ counted (not c.ends_with-joined.result) in
    let h = c.from-2.ensures ∙ counted c.turns-high.result in
    plan_right a.lows.now a.owners.now a.n a.lo a.hi a.owner _ c.ends_with-joined.result (c.enough.ensures.yes c.if-not-enough.false).1
    c.through-last.ensures c.before-first.ensures
    c.ends_with-joined.ensures refl c.owner_of-after.ensures c.turns-high.ensures
    (omega (arith, l, h))
