-- `boundary::process::tagshards_process` meets its contract.
-- Assumes nothing.
use Rattle.boundary.proofs.process.tagshards_process.Goals as goal

pub returns : goal.returns
returns c =
    c.process.ensures
