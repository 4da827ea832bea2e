-- `format::text` meets its contract.
-- Assumes nothing.
use mathlib.Core.Path.{refl}
use native.Mathlib.Omega.{arith}
use Rattle.format.proofs.Reading.{string_found, string_short}
use Rattle.format.specs.Number.{numbers}
use Rattle.format.proofs.text.Goals as goal

pub returns-then-s-from : goal.returns-then-s-from
returns-then-s-from c =
    let k = c.in_ok-n.ensures.is in
    record { is = string_short _ _ numbers k (omega (arith, k.within, c.if-s-from.true)) }

pub returns : goal.returns
returns c =
    let k = c.in_ok-n.ensures.is in
    record { is = (refl, string_found _ _ numbers k k.good (omega (arith, k.within, c.if-s-from.false))) }
