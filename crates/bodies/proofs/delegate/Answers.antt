-- `bodies::delegate` meets its contract.
-- Assumes nothing.
use mathlib.Core.Path.{refl}
use Rattle.format.proofs.Reading.{pair_found, pair_second}
use Rattle.bodies.proofs.delegate.Goals as goal

pub returns-in_err-count : goal.returns-in_err-count
returns-in_err-count c = rw c.from_residual-in_err-count.ensures (record { is = pair_second _ _ c.in_ok-lo.ensures.is c.in_err-count.ensures.is })

pub returns : goal.returns
returns c =
    let t = c.in_ok-count.ensures.is in
    record { is = (_, refl, pair_found _ _ c.in_ok-lo.ensures.is t.0, (_, t.1)) }
