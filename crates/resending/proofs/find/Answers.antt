-- `resending::find` meets its contract.
-- Assumes nothing.
use native.Mathlib.Omega.{arith}
use Rattle.resending.proofs.Laws.{stands, somewhere}
use Rattle.resending.proofs.find.Goals as goal

pub returns-then-is_for : goal.returns-then-is_for
returns-then-is_for c =
    let low = c.loop-p-test.true in
    let m = c.is_for.ensures.0 c.if-is_for.true in
    record { is = (low, λ counts mail size n P K j h q e. stands K h q e low m c.if-places-p.true) }

pub returns : goal.returns
returns c =
    record { is = λ counts mail size n P K j h q e. somewhere K h q e (λ p b. c.loop-p.invariant p (omega (arith, c.loop-p-test.false))) }
