-- `audits_names::valid` meets its contract.
-- Assumes nothing.
use native.Mathlib.Omega.{arith}
use Rattle.audits_names.proofs.Laws.{refuted, kept, few_bytes}
use Rattle.audits_names.proofs.valid.Goals as goal
use Rattle.audits_names.proofs.valid.Goals.{then-width-eq0-via-then-width-eq0, then-width-eq0-via-else-width-eq0+then-lens-n, then-width-eq0-via-else-width-eq0+else-lens-n+then-names-width}

pub returns-then-width-eq0 : goal.returns-then-width-eq0
returns-then-width-eq0 c =
    elim c.then-width-eq0.branch [
      | then-width-eq0-via-then-width-eq0 w ↦ refuted (λ N K. omega (arith, w.if-width-eq0.true, K.wide))
      | then-width-eq0-via-else-width-eq0+then-lens-n w ↦ refuted (λ N K. omega (arith, w.if-lens-n.true, K.fits_lens))
      | then-width-eq0-via-else-width-eq0+else-lens-n+then-names-width w ↦ refuted (few_bytes w.if-names-width.true)
    ]

pub returns-then-not-fresh : goal.returns-then-not-fresh
returns-then-not-fresh c =
    refuted (λ N K. c.fresh.ensures.no c.if-not-fresh.true _ N c.loop-i-test.true K)

pub returns : goal.returns
returns c =
    kept (omega (arith, c.loop-i-test.false)) c.loop-i.invariant
