-- `repeating::retransmit` meets its contract.
-- Assumes nothing.
use Rattle.repeating.proofs.Laws.{repeated}
use Rattle.repeating.proofs.retransmit.Goals as goal

pub returns : goal.returns
returns c =
    rw c.unwrap_or.ensures (repeated c.all.result c.if-out-places.false c.all.ensures)
