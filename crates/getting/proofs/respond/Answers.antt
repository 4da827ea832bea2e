-- `getting::respond` meets its contract.
-- Assumes nothing.
use native.Mathlib.Omega.{arith}
use Rattle.getting.proofs.Laws.{refers, replies_as}
use Rattle.getting.proofs.respond.Goals as goal

pub returns-then-owner-k-clause-is : goal.returns-then-owner-k-clause-is
returns-then-owner-k-clause-is c =
    refers c.owner-owner.ensures c.if-owner-k.true c.refer.ensures.is

pub returns-clause-is : goal.returns-clause-is
returns-clause-is c =
    replies_as (omega (arith, c.ranges, c.well_formed)) (omega (arith, c.ranges, c.well_formed)) c.owner-owner.ensures c.if-owner-k.false c.value-sent.ensures.is c.answered.ensures
