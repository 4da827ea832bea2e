-- `audits_post::all_told` meets its contract.
-- Assumes nothing.
use borrow.Author.Count.{below_more}
use Rattle.audits_post.proofs.all_told.Goals as goal

pub loop-i-preserved : goal.loop-i-preserved
loop-i-preserved c =
    below_more _ c.loop-i.i c.loop-i.invariant (c.told.ensures.yes c.if-not-told.false)
