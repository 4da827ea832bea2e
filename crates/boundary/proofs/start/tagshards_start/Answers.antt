-- `boundary::start::tagshards_start` meets its contract.
-- Assumes nothing.
use Rattle.boundary.proofs.start.tagshards_start.Goals as goal

pub returns : goal.returns
returns c =
    c.start.ensures
