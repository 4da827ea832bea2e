-- `audits_post::all_fit` meets its contract.
-- Assumes nothing.
use borrow.Author.Count.{below_more}
use Rattle.audits_post.proofs.all_fit.Goals as goal

pub loop-p-preserved : goal.loop-p-preserved
loop-p-preserved c =
    below_more _ c.loop-p.p c.loop-p.invariant (c.fits.ensures.yes c.if-not-fits.false)
