-- `values::keyed` meets its contract.
-- Assumes nothing.
use Rattle.format.proofs.Reading.{pair_second}
use Rattle.values.proofs.keyed.Goals as goal

pub returns-in_err-v : goal.returns-in_err-v
returns-in_err-v c = rw c.from_residual-in_err-v.ensures (record { is = pair_second _ _ c.in_ok-k.ensures.is c.in_err-v.ensures.is })
