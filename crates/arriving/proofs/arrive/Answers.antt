-- `arriving::arrive` meets its contract.
-- Assumes nothing.
use mathlib.Core.Path.{refl}
use native.Mathlib.Omega.{arith}
use Rattle.arriving.proofs.Laws.{none_arrived, one_arrived, not_lent}
use Rattle.arriving.proofs.arrive.Goals as goal

pub returns-then-ack : goal.returns-then-ack
returns-then-ack c = λ lens values mail. not_lent (λ l. omega (arith, l, c.if-ack.true)) c.unfit.ensures

pub returns-then-not-arrived : goal.returns-then-not-arrived
returns-then-not-arrived c =
    λ lens values mail. none_arrived (omega (arith, c.if-ack.false)) c.if-not-arrived.true c.over.ensures refl

pub returns : goal.returns
returns c =
    λ lens values mail. one_arrived (omega (arith, c.if-ack.false)) c.if-not-arrived.false (c.receive-arrival.ensures lens values mail) c.over-2.ensures
