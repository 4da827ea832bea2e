-- `getting::get` meets its contract.
-- Assumes nothing.
use Rattle.getting.proofs.Laws.{picks, unpicked}
use Rattle.getting.proofs.get.Goals as goal

pub returns-in_default-clause-is : goal.returns-in_default-clause-is
returns-in_default-clause-is c =
    let seen = c.view-seen.ensures in
    unpicked _ (rw (seen.counts, seen.places) at c.in_default.ensures) c.answered.ensures

pub returns-clause-is : goal.returns-clause-is
returns-clause-is c =
    let seen = c.view-seen.ensures in
    picks (rw (seen.counts, seen.places) at c.in-Ok.ensures) c.respond.ensures.is
