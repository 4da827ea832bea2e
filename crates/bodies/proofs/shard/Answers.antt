-- `bodies::shard` meets its contract.
-- Assumes nothing.
use mathlib.Core.Path.{refl}
use Rattle.format.proofs.Reading.{pair_found, pair_second}
use Rattle.bodies.proofs.shard.Goals as goal

pub returns-in_err-recipient : goal.returns-in_err-recipient
returns-in_err-recipient c = rw c.from_residual-in_err-recipient.ensures (record { is = pair_second _ _ c.in_ok-lo.ensures.is c.in_err-recipient.ensures.is })

pub returns : goal.returns
returns c =
    let t = c.in_ok-recipient.ensures.is in
    record { is = (_, refl, pair_found _ _ c.in_ok-lo.ensures.is t.1, t.1.within) }
