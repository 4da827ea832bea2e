-- `hearing::last` meets its contract.
-- Assumes nothing.
use Rattle.hearing.proofs.Laws.{last_known, last_unknown}
use Rattle.hearing.proofs.last.Goals as goal

pub returns-in-Some : goal.returns-in-Some
returns-in-Some c =
    last_known c.in-Some.ensures c.counts_of.ensures

pub returns-in-None : goal.returns-in-None
returns-in-None c =
    last_unknown c.in-None.ensures
