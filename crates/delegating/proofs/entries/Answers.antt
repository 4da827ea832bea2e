-- `delegating::entries` meets its contract. The loop's invariant: the entries that are left, written behind those that are there, make the whole.
-- Assumes nothing.
use mathlib.Core.Path.{◌≡◌, refl, sym, ap, ◌∙◌}
use mathlib.Core.List.{[]}
use Prim.Native.Nat.{◌-◌}
use native.Mathlib.Omega.{arith}
use lib.ListN.{get_or}
use Rattle.memory.specs.Bytes.{placed}
use Rattle.memory.proofs.Parts.{placed_nil, part_taken}
use Rattle.format.specs.Format.{rows}
use Rattle.delegating.specs.Columns.{entered}
use Rattle.delegating.proofs.Entered.{more_length, more_fits, more_is}
use Rattle.delegating.proofs.entries.Goals as goal

pub loop-i-preserved : goal.loop-i-preserved
loop-i-preserved c =
    let a = c.args in
    let i = c.loop-i.i in
    let at = c.loop-i.at in
    let d = c.loop-i.d in
    let h = c.loop-i-test.true in
    let C = c.requires.0 in
    let f = c.loop-i.invariant.1 in
    let e = part_taken a.bytes.now (get_or a.ats.now i 0) (get_or a.lens.now i 0) in
    let l = more_length a.keys.now a.ats.now a.lens.now a.bytes.now a.m C i at d h f _ _ e c.entry.ensures in
    (l ∙ c.loop-i.invariant.0, more_fits a.keys.now a.ats.now a.lens.now a.bytes.now a.m C i at d h f _ _ e c.entry.ensures, more_is a.keys.now a.ats.now a.lens.now a.bytes.now a.m C i at d h f _ _ e c.entry.ensures _ c.loop-i.invariant.2)

pub returns : goal.returns
returns c =
    let a = c.args in
    let i = c.loop-i.i in
    let e : a.m - i ≡ 0 = omega arith in
    let n : rows (entered a.keys.now a.ats.now a.lens.now a.bytes.now i (a.m - i)) ≡ [] = rw e refl in
    sym (placed_nil c.loop-i.d c.loop-i.at) ∙ ap (placed c.loop-i.d c.loop-i.at) (sym n) ∙ c.loop-i.invariant.2
