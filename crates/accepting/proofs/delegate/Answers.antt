-- `accepting::delegate` meets its contract.
-- Assumes nothing.
use Rattle.accepting.proofs.Together.{not_fine, too_long, accepted}
use Rattle.accepting.proofs.delegate.Goals as goal

pub returns-then-not-fine-clause-is : goal.returns-then-not-fine-clause-is
returns-then-not-fine-clause-is c = not_fine c.fine.ensures c.if-not-fine.true c.dropped.ensures

pub returns-then-not-columns-clause-is : goal.returns-then-not-columns-clause-is
returns-then-not-columns-clause-is c =
    too_long c.fine.ensures c.if-not-fine.false c.columns.ensures c.columns.auto.ks c.columns.auto.ats c.columns.auto.ls c.if-not-columns.true c.dropped-then-not-columns.ensures

pub returns-clause-is : goal.returns-clause-is
returns-clause-is c =
    accepted c.fine.ensures c.if-not-fine.false c.columns.ensures c.if-not-columns.false c.take.ensures.is
