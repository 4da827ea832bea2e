-- `exporting_receive::receive` meets its contract.
-- Assumes nothing.
use native.Mathlib.Omega.{arith}
use Rattle.exporting_receive.proofs.Laws.{received}
use Rattle.exporting_receive.proofs.receive.Goals as goal

pub returns : goal.returns
returns c =
    λ lens values mail. received (omega (arith, c.if-numbers-lt-WORDS.false)) (omega (arith, c.if-ack.false)) c.load-k.ensures (c.receive-arrival.ensures lens values mail) c.kept.ensures
