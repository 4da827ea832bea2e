-- `options::key` meets its contract.
-- Assumes nothing.
use mathlib.Core.Path.{refl}
use mathlib.Core.List.{[], ◌∷◌}
use native.Mathlib.Omega.{arith}
use Rattle.memory.proofs.Copies.{copied_then, copied_no}
use Rattle.format.specs.Number.{width}
use Rattle.format.proofs.Numbers.{length_digits}
use Rattle.options.proofs.key.Goals as goal
use Rattle.options.proofs.key.Goals.{then-d-at-via-then-d-at, then-d-at-via-else-d-at+then-d-at-2}

pub returns-then-d-at : goal.returns-then-d-at
returns-then-d-at c =
    let e = length_digits width c.args.k in
    copied_no _ _ _ (elim c.then-d-at.branch [ then-d-at-via-then-d-at w ↦ omega arith | then-d-at-via-else-d-at+then-d-at-2 w ↦ omega arith ])

pub returns : goal.returns
returns c =
    let a = c.args in
    let e = length_digits width a.k in
    copied_then (1 ∷ []) _ a.d.now _ _ a.at _ refl (omega arith) c.byte.ensures c.number.ensures
