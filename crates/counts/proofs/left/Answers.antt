-- `counts::left` meets its contract. A new key is one entry more.
-- Assumes nothing.
use mathlib.Core.Path.{◌≡◌}
use Prim.Native.Nat.{ℕ, ◌<◌}
use native.Mathlib.Omega.{arith}
use native.Mathlib.Numerals.{add-one}
use lib.ListN.{get_or}
use lib.Seq.{get_or-take, length-take-le}
use Rattle.counts.specs.Inner.{IsNew}
use Rattle.counts.proofs.News.{count_new, count_old}
use Rattle.counts.proofs.left.Goals as goal
use Rattle.counts.proofs.left.Goals.{else-is_new, then-is_new}

pub loop-k-preserved : goal.loop-k-preserved
loop-k-preserved c =
    let l = c.loop-k in
    let a = c.args in
    let n = c.is_new in
    let t : ℕ = l.k-index in
    let tm : t < a.m = omega (arith, length-take-le a.m a.ks.now (omega arith)) in
    let new : IsNew a.keys.now a.n a.lo a.hi (get_or a.ks.now t 0) n.result = rw (get_or-take a.m a.ks.now t 0 tm) at n.ensures in
    elim c.if-is_new.branch [
      | then-is_new w ↦ (
        omega arith,
        λ slots lens values T K R val. rw (w.left-is, add-one, add-one)
            (count_new a.keys.now slots lens values a.n T K a.lo a.hi a.ks.now a.m R val t tm n.result new l.left w.if-is_new.true (l.invariant.1 slots lens values T K R val)),
      )
      | else-is_new w ↦ (
        omega arith,
        λ slots lens values T K R val. rw (w.left-is, add-one)
            (count_old a.keys.now slots lens values a.n T K a.lo a.hi a.ks.now a.m R val t tm n.result new l.left w.if-is_new.false (l.invariant.1 slots lens values T K R val)),
      )
    ]

pub returns : goal.returns
returns c =
    let l = c.loop-k in
    let a = c.args in
    let e : l.k-index ≡ a.m = omega (arith, length-take-le a.m a.ks.now (omega arith)) in
    record { is = λ slots lens values T K q R val. rw (← e) (l.invariant.1 slots lens values T K R val) }
