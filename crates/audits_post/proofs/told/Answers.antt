-- `audits_post::told` meets its contract.
-- Assumes nothing.
use Rattle.audits_post.proofs.Laws.{failed, lacking, found}
use Rattle.audits_post.proofs.told.Goals as goal

pub returns-then-is_none : goal.returns-then-is_none
returns-then-is_none c =
    failed (lacking _ _ c.is_none.ensures c.if-is_none.true c.first.ensures c.loop-number.auto.number c.loop-number-test.true)

pub loop-number-preserved : goal.loop-number-preserved
loop-number-preserved c =
    found c.args.counts.now _ _ c.is_none.ensures c.if-is_none.false c.first.ensures c.loop-number.invariant
