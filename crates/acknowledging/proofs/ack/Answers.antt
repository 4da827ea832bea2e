-- `acknowledging::ack` meets its contract.
-- Assumes nothing.
use Rattle.acknowledging.proofs.Laws.{unknown, nothing_new, counted}
use Rattle.acknowledging.proofs.ack.Goals as goal

pub returns-in_default-clause-is : goal.returns-in_default-clause-is
returns-in_default-clause-is c =
    unknown c.in_default.ensures

pub returns-then-number-counts_of-clause-is : goal.returns-then-number-counts_of-clause-is
returns-then-number-counts_of-clause-is c =
    nothing_new c.in-Some.ensures (rw c.view-seen.ensures.counts at c.counts_of.ensures) c.if-number-counts_of.true

pub returns-clause-is : goal.returns-clause-is
returns-clause-is c =
    counted c.in-Some.ensures (rw c.view-seen.ensures.counts at c.counts_of.ensures) c.if-number-counts_of.false c.confirm.ensures
