-- `giving::give` meets its contract.
-- Assumes nothing.
use Rattle.giving.proofs.Laws.{given, not_given}
use Rattle.giving.proofs.give.Goals as goal

pub returns-in_default-clause-is : goal.returns-in_default-clause-is
returns-in_default-clause-is c =
    not_given c.in_default.ensures c.dropped.ensures

pub returns-clause-is : goal.returns-clause-is
returns-clause-is c =
    given c.in-Ok.ensures c.remove-entries.ensures c.moved.ensures.0 c.moved.ensures.1
