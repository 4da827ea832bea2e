-- `audits_names::fresh` meets its contract.
-- Assumes nothing.
use Rattle.audits_names.proofs.Laws.{sought}
use Rattle.audits_names.proofs.fresh.Goals as goal

pub returns : goal.returns
returns c = sought _ _ c.is_none.ensures c.find.ensures c.if-width-len.false
