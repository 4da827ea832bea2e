-- `audits_mail::valid` meets its contract.
-- Assumes nothing.
use native.Mathlib.Omega.{arith}
use mathlib.Core.Bool.{true≢false}
use borrow.Author.Count.{below_more}
use Rattle.audits_mail.proofs.Laws.{refuted, none_fits, few_bytes}
use Rattle.audits_mail.proofs.valid.Goals as goal
use Rattle.audits_mail.proofs.valid.Goals.{then-size-eq0-via-then-size-eq0, then-size-eq0-via-else-size-eq0+then-mail-size}

pub returns-then-size-eq0 : goal.returns-then-size-eq0
returns-then-size-eq0 c =
    elim c.then-size-eq0.branch [
      | then-size-eq0-via-then-size-eq0 w ↦ none_fits w.if-size-eq0.true
      | then-size-eq0-via-else-size-eq0+then-mail-size w ↦ few_bytes w.if-mail-size.true
    ]

pub returns-then-not-fine : goal.returns-then-not-fine
returns-then-not-fine c =
    refuted (λ n N K counts P L M. c.fine.ensures.no c.if-not-fine.true n N K counts P L (M c.loop-p.p c.loop-p-test.true))

pub loop-p-preserved : goal.loop-p-preserved
loop-p-preserved c = below_more _ c.loop-p.p c.loop-p.invariant (c.fine.ensures.yes c.if-not-fine.false)

pub returns : goal.returns
returns c =
    record { yes = λ e n N K counts P L p q. c.loop-p.invariant p (omega (arith, q, c.loop-p-test.false)) n N K counts P L; no = λ e. absurd (true≢false e) }
