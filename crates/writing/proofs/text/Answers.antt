-- `writing::text` meets its contract.
-- Assumes nothing.
use native.Mathlib.Omega.{arith}
use lib.ListN.{length}
use Rattle.memory.proofs.Copies.{copied_then, copied_no}
use Rattle.format.proofs.Numbers.{length_digits}
use Rattle.format.proofs.Clear.{length_counted}
use Rattle.format.specs.Number.{width}
use Rattle.writing.proofs.text.Goals as goal
use Rattle.writing.proofs.text.Goals.{then-d-at-via-then-d-at, then-d-at-via-else-d-at+then-d-at-lt-WIDTH}

pub returns-then-d-at : goal.returns-then-d-at
returns-then-d-at c =
    let e = length_counted c.args.src.now in
    copied_no _ _ _ (elim c.then-d-at.branch [ then-d-at-via-then-d-at w ↦ omega arith | then-d-at-via-else-d-at+then-d-at-lt-WIDTH w ↦ omega arith ])

pub returns-then-d-from : goal.returns-then-d-from
returns-then-d-from c = copied_no _ _ _ (omega (arith, c.if-d-from.true, c.if-d-at-lt-WIDTH.false, c.if-d-at.false, length_counted c.args.src.now))

pub returns : goal.returns
returns c =
    let a = c.args in
    let e = length_digits width (length a.src.now) in
    copied_then _ a.src.now a.d.now _ _ a.at _ (omega (arith, e)) (omega (arith, e, c.if-d-from.false, c.if-d-at-lt-WIDTH.false, c.if-d-at.false)) c.number.ensures c.copy.ensures
