-- `bodies::redirect` meets its contract.
-- Assumes nothing.
use mathlib.Core.Path.{refl}
use Rattle.format.proofs.Reading.{pair_found, pair_second}
use Rattle.bodies.proofs.redirect.Goals as goal

pub returns-in_err-address : goal.returns-in_err-address
returns-in_err-address c = rw c.from_residual-in_err-address.ensures (record { is = pair_second _ _ c.in_ok-k.ensures.is c.in_err-address.ensures.is })

pub returns : goal.returns
returns c =
    let t = c.in_ok-address.ensures.is in
    record { is = (_, refl, pair_found _ _ c.in_ok-k.ensures.is t.1, t.1.within) }
