-- `incoming::message` meets its contract.
-- Assumes nothing.
use Rattle.incoming.proofs.Laws.{handled_as}
use Rattle.incoming.proofs.Messages.{elsewhere, again, future, passed_on}
use Rattle.incoming.proofs.message.Goals as goal

pub returns-in-Elsewhere-clause-is : goal.returns-in-Elsewhere-clause-is
returns-in-Elsewhere-clause-is c =
    λ lens values mail. handled_as c.left.ensures (elsewhere (rw (c.view.ensures.lens, c.view.ensures.bytes) at c.in-Elsewhere.ensures) lens values mail)

pub returns-in-Again-clause-is : goal.returns-in-Again-clause-is
returns-in-Again-clause-is c =
    λ lens values mail. handled_as c.left-in-Again.ensures (again (rw (c.view.ensures.lens, c.view.ensures.bytes) at c.in-Again.ensures) c.ack.ensures lens values mail)

pub returns-in-Future-clause-is : goal.returns-in-Future-clause-is
returns-in-Future-clause-is c =
    λ lens values mail. handled_as c.left-in-Future.ensures (future (rw (c.view.ensures.lens, c.view.ensures.bytes) at c.in-Future.ensures) lens values mail)

pub returns-in-Next-clause-is : goal.returns-in-Next-clause-is
returns-in-Next-clause-is c = passed_on (rw (c.view.ensures.lens, c.view.ensures.bytes) at c.in-Next.ensures) c.fresh.ensures.is
