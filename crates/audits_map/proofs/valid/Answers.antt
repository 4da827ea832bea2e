-- `audits_map::valid` meets its contract.
-- Assumes nothing.
use native.Mathlib.Omega.{arith}
use Rattle.audits_map.proofs.Laws.{mapped}
use Rattle.audits_map.proofs.valid.Goals as goal

pub returns : goal.returns
returns c =
    mapped (c.enough.ensures.yes c.if-not-enough.false) (omega (arith, c.if-lows-ne0.false)) (c.rises.ensures.yes c.if-not-rises.false).1 (c.turning.ensures.yes c.if-not-turning.false) c.owned.ensures
