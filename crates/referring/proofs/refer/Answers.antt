-- `referring::refer` meets its contract.
-- Assumes nothing.
use native.Mathlib.Omega.{arith}
use Rattle.referring.proofs.Laws.{referred}
use Rattle.referring.proofs.refer.Goals as goal

pub returns-clause-is : goal.returns-clause-is
returns-clause-is c =
    referred (omega (arith, c.ranges, c.well_formed)) (omega (arith, c.ranges, c.well_formed)) c.redirect-sent.ensures.is c.answered.ensures
