-- `processing::process` meets its contract.
-- Assumes nothing.
use native.Mathlib.Omega.{arith}
use Rattle.processing.proofs.Laws.{is_ack, is_none, letters}
use Rattle.processing.proofs.process.Goals as goal

pub returns-in-Some-Message-clause-is : goal.returns-in-Some-Message-clause-is
returns-in-Some-Message-clause-is c =
    letters (omega (arith, c.if-k-eq0.false)) (rw c.in-Some-Message.field-0-is at c.in-Some-Message.ensures) c.row.ensures.is

pub returns-in-Some-Ack-clause-is : goal.returns-in-Some-Ack-clause-is
returns-in-Some-Ack-clause-is c =
    is_ack (omega (arith, c.if-k-eq0.false)) (rw c.in-Some-Ack.field-0-is at c.in-Some-Ack.ensures) c.staying-in-Some-Ack.ensures

pub returns-in-None-clause-is : goal.returns-in-None-clause-is
returns-in-None-clause-is c = is_none (omega (arith, c.if-k-eq0.false)) c.in-None.ensures c.staying-in-None.ensures
