-- `numbers::load` meets its contract.
-- Assumes nothing.
use native.Mathlib.Omega.{arith}
use Rattle.numbers.proofs.load.Goals as goal

pub returns-then-numbers-lt-WORDS : goal.returns-then-numbers-lt-WORDS
returns-then-numbers-lt-WORDS c = λ h. absurd (omega (arith, h, c.if-numbers-lt-WORDS.true))
