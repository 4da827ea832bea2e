-- `taking::take` meets its contract.
-- Assumes nothing.
use Rattle.taking.proofs.Laws.{no_seat, taken}
use Rattle.taking.proofs.take.Goals as goal

pub returns-in_default-clause-is : goal.returns-in_default-clause-is
returns-in_default-clause-is c =
    no_seat c.in_default.ensures.is

pub returns-clause-is : goal.returns-clause-is
returns-clause-is c =
    taken c.if-room-s.false c.in-Some.ensures.is c.take.ensures c.copy.ensures
