-- `starting::start` meets its contract.
-- Assumes nothing.
use Rattle.starting.proofs.Laws.{started}
use Rattle.starting.proofs.start.Goals as goal

pub returns : goal.returns
returns c =
    started c.in-Some.ensures (c.serves.ensures.yes c.if-not-serves.false) c.first_owns-bounds.ensures c.start.ensures c.start-2.ensures c.enlist.ensures c.begun.ensures
