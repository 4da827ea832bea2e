-- `setting::settle` meets its contract.
-- Assumes nothing.
use mathlib.Core.Path.{sym, ap}
use Rattle.message.specs.View.{value_of}
use Rattle.setting.proofs.Laws.{refers, sets, value_taken}
use Rattle.setting.proofs.settle.Goals as goal

pub returns-then-owner-k-clause-is : goal.returns-then-owner-k-clause-is
returns-then-owner-k-clause-is c = refers c.requires c.owner-owner.ensures c.if-owner-k.true c.refer.ensures.is

pub returns-in-None-clause-is : goal.returns-in-None-clause-is
returns-in-None-clause-is c =
    sets c.requires c.owner-owner.ensures c.if-owner-k.false (ap (value_of _) (sym c.in-None.is)) (c.remove.ensures.is.is _ _ _ _)

pub returns-in-Some-clause-is : goal.returns-in-Some-clause-is
returns-in-Some-clause-is c =
    sets c.requires c.owner-owner.ensures c.if-owner-k.false (value_taken _ c.in-Some.is) (c.put.ensures.is.is _ _)
