-- `composing::get` meets its contract.
-- Assumes nothing.
use mathlib.Core.Path.{refl, sym}
use Prim.Native.Nat.{◌<◌}
use native.Mathlib.Omega.{arith}
use Rattle.std.proofs.lemmas.Result.{err_from_is_err_and}
use Rattle.format.specs.Number.{width, numbers}
use Rattle.format.specs.Format.{number}
use Rattle.format.proofs.Numbers.{length_digits}
use Rattle.message.specs.Message.{get}
use Rattle.fronts.proofs.Fronts.{fields_written, fields_refused, message_written}
use Rattle.composing.proofs.get.Goals as goal

pub returns-in_err-at : goal.returns-in_err-at
returns-in_err-at c =
    let a = c.args in
    let known : a.n < numbers = omega arith in
    let p = err_from_is_err_and c.from_residual.result c.from_residual.ensures.1 in
    rw (p.1, p.2)
    (message_written (get a.key) a.n a.to.now 0 a.key a.d.now known (omega arith) refl (fields_refused number a.key a.n a.to.now 0 width a.d.now (sym (length_digits width a.key)) _ c.in_err-at.ensures))

pub returns : goal.returns
returns c =
    let a = c.args in
    let known : a.n < numbers = omega arith in
    let small : a.key < numbers = omega arith in
    message_written (get a.key) a.n a.to.now 0 a.key a.d.now known (omega arith) refl (fields_written number a.key a.n a.to.now 0 width a.d.now (sym (length_digits width a.key)) c.in_ok-at.ensures small c.number.ensures)
