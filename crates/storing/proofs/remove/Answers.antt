-- `storing::remove` meets its contract.
-- Assumes nothing.
use mathlib.Core.Path.{refl}
use native.Mathlib.Omega.{arith}
use Rattle.storing.proofs.Laws.{settled_as}
use Rattle.storing.proofs.remove.Goals as goal

pub returns-clause-is : goal.returns-clause-is
returns-clause-is c =
    record {
      is = λ lows owners lens values.
          settled_as (omega (arith, c.ranges, c.well_formed)) (omega (arith, c.ranges, c.well_formed)) (c.delete-n.ensures.is lens values) (λ h C. refl) c.reply-sent.ensures.is c.filled.ensures c.answered.ensures;
    }
