-- `composing::ack` meets its contract.
-- Assumes nothing.
use mathlib.Core.Path.{refl}
use mathlib.Core.List.{[], ◌∷◌}
use native.Mathlib.Omega.{arith}
use Rattle.memory.proofs.Copies.{copied_then}
use Rattle.format.specs.Number.{width, digits}
use Rattle.format.proofs.Numbers.{length_digits}
use Rattle.composing.proofs.ack.Goals as goal

pub returns-then-d : goal.returns-then-d
returns-then-d c =
    let a = c.args in
    record { is = (refl, omega (arith, c.if-d.true, length_digits width a.n)) }

pub returns : goal.returns
returns c =
    let a = c.args in
    let e = length_digits width a.n in
    let w = copied_then (1 ∷ []) (digits width a.n) a.d.now _ _ 0 1 refl (omega (arith, e, c.if-d.false)) c.byte.ensures c.number.ensures in
    record { is = ((omega arith, omega (arith, c.ranges)), omega (arith, e), (w.done (omega (arith, e, c.if-d.false))).1) }
