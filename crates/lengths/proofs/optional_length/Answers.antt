-- `lengths::optional_length` meets its contract.
-- Assumes nothing.
use native.Mathlib.Omega.{arith}
use Rattle.format.proofs.Clear.{length_counted}
use Rattle.lengths.proofs.optional_length.Goals as goal

pub returns-in-Some : goal.returns-in-Some
returns-in-Some c = rw c.in-Some.is (omega (arith, length_counted c.in-Some.bytes.now), omega arith)
