-- `incoming::fresh` meets its contract.
-- Assumes nothing.
use Rattle.incoming.proofs.Laws.{handled_as}
use Rattle.incoming.proofs.Taken.{unroomy, no_room, taken}
use Rattle.incoming.proofs.fresh.Goals as goal

pub returns-in_default-clause-is : goal.returns-in_default-clause-is
returns-in_default-clause-is c =
    λ lens values mail.
    handled_as c.left.ensures (unroomy (rw (c.view.ensures.lens, c.view.ensures.bytes) at c.in_default.ensures) lens values mail)

pub returns-in-Ok-clause-is : goal.returns-in-Ok-clause-is
returns-in-Ok-clause-is c =
    let stays = c.in-Ok.ensures.stays in
    λ lens values mail.
    taken (rw (c.view.ensures.lens, c.view.ensures.bytes) at c.in-Some.ensures) c.in-Ok.ensures.is c.ack.ensures stays.0.1 stays.1.1 c.take.auto.counts c.take.auto.room lens values mail

pub returns-in-Err-clause-is : goal.returns-in-Err-clause-is
returns-in-Err-clause-is c =
    λ lens values mail. handled_as c.left-in-Err.ensures (no_room c.in-Err.ensures.is lens values mail)
