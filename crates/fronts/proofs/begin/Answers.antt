-- `fronts::begin` meets its contract.
-- Assumes nothing.
use mathlib.Core.Path.{◌≡◌, refl}
use mathlib.Core.List.{List, [], ◌∷◌, ◌++◌}
use Prim.Native.Nat.{ℕ, ◌+◌}
use native.Mathlib.Omega.{arith}
use lib.ListN.{length, length-append}
use Rattle.memory.proofs.Copies.{copied_then}
use Rattle.fronts.proofs.Fronts.{length_front}
use Rattle.format.proofs.Clear.{length_counted}
use Rattle.format.specs.Number.{width, digits}
use Rattle.format.specs.Format.{counted}
use Rattle.format.proofs.Numbers.{length_digits}
use Rattle.fronts.proofs.begin.Goals as goal
use Rattle.fronts.proofs.begin.Goals.{then-d-head-via-then-d-head, then-d-head-via-else-d-head+then-d-head-2}

pub returns-then-d-head : goal.returns-then-d-head
returns-then-d-head c =
    let a = c.args in
    let e = length_front a.n a.to.now a.kind in
    record { is = (refl, elim c.then-d-head.branch [ then-d-head-via-then-d-head w ↦ omega arith | then-d-head-via-else-d-head+then-d-head-2 w ↦ omega arith ]) }

pub returns : goal.returns
returns c =
    let a = c.args in
    let n : List ℕ = digits width a.n in
    let to : List ℕ = counted a.to.now in
    let ln : length n ≡ width = length_digits width a.n in
    let lt = length_counted a.to.now in
    let l0 : length ((0 ∷ n) ++ to) ≡ 1 + length n + length to = omega (arith, length-append (0 ∷ n) to) in
    let f2 = c.if-d-head.false in
    let x = copied_then (0 ∷ []) n a.d.now _ _ 0 1 refl (omega (arith, ln, f2)) c.byte.ensures c.number.ensures in
    let y = copied_then (0 ∷ n) to a.d.now _ _ 0 _ (omega (arith, ln)) (omega (arith, ln, lt, f2)) x c.text.ensures in
    let z = copied_then ((0 ∷ n) ++ to) (a.kind ∷ []) a.d.now _ _ 0 _ (omega (arith, ln, lt, l0)) (omega (arith, ln, lt, l0, f2)) y c.byte-2.ensures in
    let all = length_front a.n a.to.now a.kind in
    record { is = (omega (arith, all), omega arith, omega (arith, f2, c.if-d-head-2.false), (z.done (omega (arith, all, f2))).1) }
