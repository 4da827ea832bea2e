-- `hearing::own` meets its contract.
-- Assumes nothing.
use Rattle.hearing.proofs.Laws.{nameless, compared}
use Rattle.hearing.proofs.own.Goals as goal

pub returns-in_default : goal.returns-in_default
returns-in_default c =
    nameless c.in_default.ensures

pub returns : goal.returns
returns c =
    compared c.in-Some.ensures c.same.ensures
