-- `delegating::entry` meets its contract.
-- Assumes nothing.
use mathlib.Core.Path.{◌≡◌}
use mathlib.Core.List.{List}
use Prim.Native.Nat.{ℕ}
use native.Mathlib.Omega.{arith}
use lib.ListN.{length, length-append}
use Rattle.memory.proofs.Copies.{copied_then}
use Rattle.format.specs.Number.{width, digits}
use Rattle.format.specs.Format.{counted}
use Rattle.format.proofs.Numbers.{length_digits}
use Rattle.format.proofs.Clear.{length_counted}
use Rattle.delegating.proofs.entry.Goals as goal

pub returns : goal.returns
returns c =
    let a = c.args in
    let k : List ℕ = digits width a.key in
    let v : List ℕ = counted a.value.now in
    let e : length k ≡ width = length_digits width a.key in
    let u = length_counted a.value.now in
    let w = copied_then k v a.d.now _ _ a.at _ (omega (arith, e)) (omega (arith, e, u, c.requires)) c.number.ensures c.text.ensures in
    (w.done (omega (arith, e, u, length-append k v, c.requires))).1
