-- `audits_room::held` meets its contract.
-- Assumes nothing.
use Rattle.audits_room.proofs.Laws.{nameless, not_ack, not_any, not_mine, tested}
use Rattle.audits_room.proofs.held.Goals as goal

pub returns-in_default : goal.returns-in_default
returns-in_default c = nameless c.in_default.ensures

pub returns-then-not-own : goal.returns-then-not-own
returns-then-not-own c = not_mine (rw c.in-Some-Message.field-0-is at c.in-Some-Message.ensures) c.own.ensures c.if-not-own.true

pub returns-else-not-own : goal.returns-else-not-own
returns-else-not-own c =
    rw c.is_some.ensures
    (tested (rw c.in-Some-Message.field-0-is at c.in-Some-Message.ensures) c.own.ensures c.if-not-own.false c.in-Some.ensures c.roomy.ensures)

pub returns-in-Some-Ack : goal.returns-in-Some-Ack
returns-in-Some-Ack c = not_ack (rw c.in-Some-Ack.field-0-is at c.in-Some-Ack.ensures)

pub returns-in-None : goal.returns-in-None
returns-in-None c = not_any c.in-None.ensures
