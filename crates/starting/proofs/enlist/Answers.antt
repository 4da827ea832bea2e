-- `starting::enlist` meets its contract.
-- Assumes nothing.
use mathlib.Core.Path.{◌≡◌, ◌∙◌}
use Prim.Native.Nat.{ℕ, ◌+◌, ◌-◌}
use native.Mathlib.Omega.{arith}
use lib.ListN.{get_or}
use Rattle.starting.proofs.Laws.{enlisted_more}
use Rattle.starting.proofs.enlist.Goals as goal

pub loop-i-preserved : goal.loop-i-preserved
loop-i-preserved c =
    let a = c.args in
    let l = c.loop-i in
    let at : ℕ = get_or a.ats.now l.i 0 in
    let e : at + get_or a.address_lens.now l.i 0 - at ≡ get_or a.address_lens.now l.i 0 = omega arith in
    let A = rw e at c.add.ensures in
    (c.add.auto.lens ∙ l.invariant.0, c.add.auto.names ∙ l.invariant.1, enlisted_more c.requires c.loop-i-test.true l.invariant.0 l.invariant.1 l.invariant.2 c.add.result A)
