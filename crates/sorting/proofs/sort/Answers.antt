-- `sorting::sort` meets its contract.
-- Assumes nothing.
use native.Mathlib.Omega.{arith}
use Rattle.sorting.proofs.Laws.{elsewhere, again, future, next}
use Rattle.sorting.proofs.sort.Goals as goal

pub returns-then-not-own : goal.returns-then-not-own
returns-then-not-own c =
    elsewhere c.own.ensures c.if-not-own.true

pub returns-then-n-last : goal.returns-then-n-last
returns-then-n-last c =
    again c.own.ensures c.if-not-own.false c.last-heard.ensures c.if-n-last.true

pub returns-then-n-last-ne1 : goal.returns-then-n-last-ne1
returns-then-n-last-ne1 c =
    future c.own.ensures c.if-not-own.false c.last-heard.ensures c.if-n-last.false (λ e. omega (arith, e, c.if-n-last-ne1.true))

pub returns : goal.returns
returns c =
    next c.own.ensures c.if-not-own.false c.last-heard.ensures c.if-n-last.false (omega (arith, c.if-n-last-ne1.false))
