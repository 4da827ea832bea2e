-- `lengths::bound_length` meets its contract.
-- Assumes nothing.
use native.Mathlib.Omega.{arith}
use Rattle.format.specs.Number.{width}
use Rattle.format.proofs.Numbers.{length_digits}
use Rattle.lengths.proofs.bound_length.Goals as goal

pub returns-in-Key : goal.returns-in-Key
returns-in-Key c = rw c.in-Key.is (omega (arith, length_digits width c.in-Key.field-0), omega arith)
