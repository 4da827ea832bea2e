-- `audits_post::fits` meets its contract.
-- Assumes nothing.
use Rattle.audits_post.proofs.Laws.{failed, no_peer, too_long, first_fits}
use Rattle.audits_post.proofs.fits.Goals as goal

pub returns-then-n-mark : goal.returns-then-n-mark
returns-then-n-mark c =
    failed (no_peer c.if-mark-eq0.false c.if-n-mark.true)

pub returns-then-size-places : goal.returns-then-size-places
returns-then-size-places c =
    failed (too_long c.if-mark-eq0.false c.if-size-places.true)

pub returns : goal.returns
returns c =
    rw c.eq.ensures (first_fits _ c.requires.1 c.if-mark-eq0.false c.if-n-mark.false c.if-size-places.false c.if-number-counts.false c.if-counts-i.false c.first.ensures)
