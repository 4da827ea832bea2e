-- `fields::range` meets its contract.
-- Assumes nothing.
use Rattle.format.proofs.Reading.{pair_second}
use Rattle.fields.proofs.range.Goals as goal

pub returns-in_err-hi : goal.returns-in_err-hi
returns-in_err-hi c = rw c.from_residual-in_err-hi.ensures (record { is = pair_second _ _ c.in_ok-lo.ensures.is c.in_err-hi.ensures.is })
