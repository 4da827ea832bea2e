-- `audits_post::valid` meets its contract.
-- Assumes nothing.
use native.Mathlib.Omega.{arith}
use Rattle.audits_post.proofs.Laws.{kept_fit, refuted, few_bytes, posted}
use Rattle.audits_post.proofs.valid.Goals as goal
use Rattle.audits_post.proofs.valid.Goals.{then-counts-n-via-then-counts-n, then-counts-n-via-else-counts-n+then-mail-size}

pub returns-then-counts-n : goal.returns-then-counts-n
returns-then-counts-n c =
    elim c.then-counts-n.branch [
      | then-counts-n-via-then-counts-n w ↦ refuted (λ P K. omega (arith, w.if-counts-n.true, K.fits_counts))
      | then-counts-n-via-else-counts-n+then-mail-size w ↦ refuted (few_bytes w.if-mail-size.true)
    ]

pub returns-then-all_fit : goal.returns-then-all_fit
returns-then-all_fit c =
    posted (omega (arith, c.if-size-eq0.false)) c.if-counts-n.false c.if-mail-size.false (c.all_fit.ensures.yes c.if-all_fit.true) c.all_told.ensures

pub returns-else-all_fit : goal.returns-else-all_fit
returns-else-all_fit c =
    rw c.if-all_fit.false (refuted (λ P K. c.all_fit.ensures.no c.if-all_fit.false (kept_fit K)))
