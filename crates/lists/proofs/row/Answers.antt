-- `lists::row` meets its contract.
-- Assumes nothing.
use Rattle.format.proofs.Reading.{pair_second}
use Rattle.lists.proofs.row.Goals as goal

pub returns-in_err-part : goal.returns-in_err-part
returns-in_err-part c = rw c.from_residual-in_err-part.ensures (record { is = pair_second _ _ c.in_ok-key.ensures.is c.in_err-part.ensures.is })
