-- `audits_room::valid` meets its contract.
-- Assumes nothing.
use native.Mathlib.Omega.{arith}
use Rattle.audits_room.proofs.Laws.{free, too_long, no_peer, letter_held}
use Rattle.audits_room.proofs.valid.Goals as goal
use Rattle.audits_room.proofs.valid.Goals.{then-room-k-via-then-room-k, then-room-k-via-else-room-k+then-k}

pub returns-then-k-eq0 : goal.returns-then-k-eq0
returns-then-k-eq0 c = λ lens values counts mail. free c.if-k-eq0.true

pub returns-then-room-k : goal.returns-then-room-k
returns-then-room-k c = λ lens values counts mail.
    elim c.then-room-k.branch [
      | then-room-k-via-then-room-k w ↦ too_long (omega (arith, c.if-k-eq0.false)) w.if-room-k.true
      | then-room-k-via-else-room-k+then-k w ↦ no_peer (omega (arith, c.if-k-eq0.false)) w.if-k.true
    ]

pub returns : goal.returns
returns c = letter_held (omega (arith, c.if-k-eq0.false)) c.if-room-k.false c.if-k.false c.held.ensures
