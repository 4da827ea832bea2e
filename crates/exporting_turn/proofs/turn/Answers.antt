-- `exporting_turn::turn` meets its contract.
-- Assumes nothing.
use native.Mathlib.Omega.{arith}
use Rattle.exporting_turn.proofs.Laws.{turned}
use Rattle.exporting_turn.proofs.turn.Goals as goal

pub returns : goal.returns
returns c =
    turned (omega (arith, c.if-numbers-lt-WORDS.false)) c.load-k.ensures c.turn-ended.ensures c.kept.ensures
