-- `storing::put` meets its contract.
-- Assumes nothing.
use native.Mathlib.Omega.{arith}
use Rattle.storing.proofs.Laws.{settled_as, stored_fits, not_stored}
use Rattle.storing.proofs.put.Goals as goal

pub returns-in_default-clause-is : goal.returns-in_default-clause-is
returns-in_default-clause-is c =
    record { is = λ lows owners. not_stored _ (omega (arith, c.ranges, c.well_formed)) c.in_default.ensures c.dropped.ensures }

pub returns-clause-is : goal.returns-clause-is
returns-clause-is c =
    let A = c.in-Ok.ensures in
    record {
      is = λ lows owners.
          settled_as (omega (arith, c.ranges, c.well_formed)) (omega (arith, c.ranges, c.well_formed)) A.is (stored_fits A c.set.auto.slots) c.reply-sent.ensures.is c.filled.ensures c.answered.ensures;
    }
