-- `boundary::receive::tagshards_receive` meets its contract.
-- Assumes nothing.
use Rattle.boundary.proofs.receive.tagshards_receive.Goals as goal

pub returns : goal.returns
returns c =
    c.receive.ensures
