-- `rounds::again` meets its contract.
-- Assumes nothing.
use native.Mathlib.Omega.{arith}
use Rattle.rounds.proofs.Laws.{not_due, due}
use Rattle.rounds.proofs.again.Goals as goal

pub returns-then-k : goal.returns-then-k
returns-then-k c =
    not_due (λ e. omega (arith, e, c.if-k.true)) c.over.ensures

pub returns-in-Ok : goal.returns-in-Ok
returns-in-Ok c =
    due (omega (arith, c.if-k.false)) c.in-Ok.ensures c.over-in-Ok.ensures
