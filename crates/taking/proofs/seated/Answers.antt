-- `taking::seated` meets its contract.
-- Assumes nothing.
use Rattle.taking.proofs.Seats.{found, not_found}
use Rattle.taking.proofs.seated.Goals as goal

pub returns-in-None-clause-is : goal.returns-in-None-clause-is
returns-in-None-clause-is c =
    not_found c.join.result (rw (c.view-seen.ensures.lens, c.view-seen.ensures.bytes) at c.in-None.ensures) c.join.ensures.is

pub returns-in-Some-clause-is : goal.returns-in-Some-clause-is
returns-in-Some-clause-is c =
    let seen = c.view-seen.ensures in
    found (rw (seen.lens, seen.bytes) at c.in-Some.ensures)
