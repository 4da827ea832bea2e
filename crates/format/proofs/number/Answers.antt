-- `format::number` meets its contract.
-- Assumes nothing.
use mathlib.Core.Path.{◌≡◌, ◌∙◌, ap}
use Prim.Native.Nat.{ℕ, ◌+◌, ◌≤◌, ◌<◌}
use lib.ListN.{length, take, drop, get_or, length-drop}
use Rattle.std.proofs.lemmas.List.{take_all}
use Rattle.format.specs.Number.{base}
use native.Mathlib.Omega.{arith}
use Rattle.format.proofs.Reading.{number_found, number_short}
use Rattle.format.proofs.Numbers.{worth_le}
use Rattle.format.proofs.number.Goals as goal

pub returns-in_err-get : goal.returns-in_err-get
returns-in_err-get c = rw c.from_residual.ensures (record { is = number_short _ _ (omega (arith, c.in_err-get.ensures.lookup.0)) })

pub returns-in_err-bytes : goal.returns-in_err-bytes
returns-in_err-bytes c = rw c.from_residual-in_err-bytes.ensures (record { is = number_short _ _ (omega (arith, c.in_ok-get.ensures.lookup.0, c.in_err-bytes.ensures.cases)) })

pub returns : goal.returns
returns c =
    let s = c.args.s.now in
    let at = c.args.at in
    let room : at + 8 ≤ length s = omega (arith, c.in_ok-get.ensures.lookup.0, c.in_ok-bytes.ensures.cases.enough) in
    let rest : c.in_ok-get.field-0.now ≡ drop at s = c.in_ok-get.ensures.lookup.0.2 ∙ take_all _ (drop at s) (omega (arith, length-drop at s)) in
    let byte : (i : ℕ) → get_or s i 0 < base = λ i. omega (arith, c.type_inv.s i) in
    let e = worth_le s byte at room _ _ (c.in_ok-bytes.ensures.cases.same ∙ ap (take 8) rest) c.from_le_bytes.type_inv c.from_le_bytes.ensures in
    record { is = rw e (number_found s at byte room) }
