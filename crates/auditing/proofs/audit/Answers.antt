-- `auditing::audit` meets its contract.
-- Assumes nothing.
use Rattle.auditing.proofs.Laws.{no_numbers, no_names, no_map, no_table, no_post, no_mail, audited}
use Rattle.auditing.proofs.audit.Goals as goal

pub returns-then-not-agreeing : goal.returns-then-not-agreeing
returns-then-not-agreeing c =
    no_numbers c.agreeing.ensures c.if-not-agreeing.true

pub returns-then-not-valid : goal.returns-then-not-valid
returns-then-not-valid c =
    no_names c.valid.ensures c.if-not-valid.true

pub returns-then-not-valid-2 : goal.returns-then-not-valid-2
returns-then-not-valid-2 c =
    no_map c.valid-2.ensures c.if-not-valid-2.true

pub returns-then-not-valid-3 : goal.returns-then-not-valid-3
returns-then-not-valid-3 c =
    no_table c.valid-3.ensures c.if-not-valid-3.true

pub returns-then-not-valid-4 : goal.returns-then-not-valid-4
returns-then-not-valid-4 c =
    no_post c.valid-4.ensures c.if-not-valid-4.true

pub returns-then-not-valid-5 : goal.returns-then-not-valid-5
returns-then-not-valid-5 c =
    no_mail c.valid-5.ensures c.if-not-valid-5.true

pub returns : goal.returns
returns c =
    let a = c.args in
    audited c.agreeing.ensures c.if-not-agreeing.false c.valid.ensures c.if-not-valid.false c.valid-2.ensures c.if-not-valid-2.false
    c.valid-3.ensures c.if-not-valid-3.false c.valid-4.ensures c.if-not-valid-4.false c.valid-5.ensures c.if-not-valid-5.false
    (c.valid-6.ensures a.lens.now a.values.now a.counts.now a.mail.now)
