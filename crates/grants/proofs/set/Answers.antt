-- `grants::set` meets its contract. Both columns are edited by one plan, which is right; where there is no room, the plan says how many bounds the map would take.
-- Assumes nothing.
use mathlib.Core.Path.{refl, sym, ◌∙◌}
use native.Mathlib.Omega.{arith}
use borrow.Author.Tests.{not-false}
use Rattle.keys.specs.Bound.{below}
use Rattle.bounding.proofs.Takes.{planned_takes}
use Rattle.grants.proofs.set.Goals as goal

pub returns-then-lows-plan : goal.returns-then-lows-plan
returns-then-lows-plan c =
    let p = c.planned-plan in
    let e = not-false (below c.args.lo c.args.hi) (sym c.is_empty.ensures ∙ c.if-is_empty.false) in
    record { is = (refl, refl, λ f k. (p.result.bounds, planned_takes p.ensures k e, omega (arith, c.if-lows-plan.true))) }

pub returns-then-owners-plan : goal.returns-then-owners-plan
returns-then-owners-plan c =
    let p = c.planned-plan in
    let e = not-false (below c.args.lo c.args.hi) (sym c.is_empty.ensures ∙ c.if-is_empty.false) in
    record { is = (refl, refl, λ f k. (p.result.bounds, planned_takes p.ensures k e, omega (arith, c.if-owners-plan.true))) }

pub returns : goal.returns
returns c =
    let p = c.planned-plan in
    let lows = c.edit in
    let owners = c.edit-2 in
    let e = not-false (below c.args.lo c.args.hi) (sym c.is_empty.ensures ∙ c.if-is_empty.false) in
    let lo = c.key.ensures in
    let hi = c.key-2.ensures in
    record {
      is = λ f k.
          p.ensures.keeps f k e lows.new.column owners.new.column (omega (arith, lows.auto, c.if-lows-plan.false)) (omega (arith, owners.auto, c.if-owners-plan.false))
          (rw (lo, hi) at lows.ensures) owners.ensures;
    }
