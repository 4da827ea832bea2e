-- `receiving::receive` meets its contract.
-- Assumes nothing.
use mathlib.Core.Path.{sym, ap, ◌∙◌}
use native.Mathlib.Omega.{arith}
use Rattle.incoming.specs.Handled.{leaving}
use Rattle.receiving.proofs.Laws.{received_as, unfit, full, handled, invalid, ack_handled}
use Rattle.receiving.proofs.receive.Goals as goal

pub returns-then-ack : goal.returns-then-ack
returns-then-ack c = λ lens values mail. received_as c.left.ensures (unfit (omega (arith, c.if-ack.true)))

pub returns-then-k-ne0 : goal.returns-then-k-ne0
returns-then-k-ne0 c =
    λ lens values mail. received_as c.left-then-k-ne0.ensures (full c.if-ack.false (λ e. omega (arith, e, c.if-k-ne0.true)))

pub returns-in-Some-Message : goal.returns-in-Some-Message
returns-in-Some-Message c =
    let stays = c.message.ensures.stays in
    let H = rw (← c.name_lens-1.given.1.1 (sym stays.0.0), ← c.names-1.given.1.1 (sym stays.1.0)) at c.message.ensures.is in
    λ lens values mail.
    handled c.if-ack.false (λ h. rw c.in-Some-Message.field-0-is at c.in-Some-Message.ensures) c.if-k-ne0.false (H lens values mail)

pub returns-in-Some-Ack : goal.returns-in-Some-Ack
returns-in-Some-Ack c =
    let stays = c.ack-counted.ensures.stays in
    let Y = rw (← c.counts-in-Some-Ack-1.given.1.1 (sym stays.0.0), ← c.places-1.given.1.1 (sym stays.1.0)) at c.ack-counted.ensures.is in
    let A = rw c.in-Some-Ack.field-0-is at c.in-Some-Ack.ensures in
    λ lens values mail.
    received_as (c.left-in-Some-Ack.ensures ∙ ap (leaving c.args.k) c.ack_outcome.ensures)
    (handled c.if-ack.false (λ h. tt) c.if-k-ne0.false (ack_handled A c.ack-counted.result Y lens values mail))

pub returns-in-None : goal.returns-in-None
returns-in-None c =
    λ lens values mail.
    received_as c.left-in-None.ensures (handled c.if-ack.false (λ h. tt) c.if-k-ne0.false (invalid c.in-None.ensures))
