-- `sizes::size_of` meets its contract.
-- Assumes nothing.
use mathlib.Core.Path.{◌≡◌}
use Prim.Native.Nat.{◌+◌, ◌-◌}
use native.Mathlib.Omega.{arith}
use lib.ListN.{get_or}
use Rattle.std.proofs.lemmas.List.{get_or-take}
use Rattle.sizes.proofs.Laws.{sizes_step}
use Rattle.sizes.proofs.size_of.Goals as goal

pub loop-len-preserved : goal.loop-len-preserved
loop-len-preserved c =
    let a = c.args in
    let i = c.loop-len.len-index in
    let k = c.in_ok-len-items.ensures.lookup.0 in
    let here : get_or c.in_ok-len-items.len-items.now i 0 ≡ get_or a.lens.now i 0 = rw k.2 (get_or-take (a.m - 0) a.lens.now i 0 (omega arith)) in
    let t = sizes_step a.lens.now i (a.m - i) (omega arith) in
    let e : a.m - (i + 1) ≡ a.m - i - 1 = omega arith in
    (omega arith, rw e (omega (arith, t)))
