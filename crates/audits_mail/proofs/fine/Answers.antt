-- `audits_mail::fine` meets its contract.
-- Assumes nothing.
use Rattle.audits_mail.proofs.Laws.{nameless, read}
use Rattle.audits_mail.proofs.fine.Goals as goal

pub returns-in_default : goal.returns-in_default
returns-in_default c = nameless c.requires.0 c.if-mark-eq0.false c.in_default.ensures

pub returns : goal.returns
returns c = read c.requires.0 c.if-mark-eq0.false c.in-Some.ensures c.addressed.ensures
