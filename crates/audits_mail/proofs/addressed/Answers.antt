-- `audits_mail::addressed` meets its contract.
-- Assumes nothing.
use native.Mathlib.Omega.{arith}
use borrow.Author.Tests.{ne_eqb}
use Rattle.audits_mail.proofs.Laws.{not_ack, not_any, other_number, compared}
use Rattle.audits_mail.proofs.addressed.Goals as goal

pub returns-then-n-number : goal.returns-then-n-number
returns-then-n-number c =
    let A = rw c.in-Some-Message.field-0-is at c.in-Some-Message.ensures in
    compared A (omega (arith, c.if-n-number.true)) c.same.ensures

pub returns-else-n-number : goal.returns-else-n-number
returns-else-n-number c =
    let A = rw c.in-Some-Message.field-0-is at c.in-Some-Message.ensures in
    rw (ne_eqb c.in-Some-Message.n c.args.number c.if-n-number.false) (other_number A c.if-n-number.false)

pub returns-in-Some-Ack : goal.returns-in-Some-Ack
returns-in-Some-Ack c = not_ack (rw c.in-Some-Ack.field-0-is at c.in-Some-Ack.ensures)

pub returns-in-None : goal.returns-in-None
returns-in-None c = not_any c.in-None.ensures
