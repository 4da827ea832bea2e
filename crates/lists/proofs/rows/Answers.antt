-- `lists::rows` meets its contract.
-- Assumes nothing.
use mathlib.Core.Path.{◌≡◌}
use Prim.Native.Nat.{◌+◌, ◌-◌}
use native.Mathlib.Omega.{arith}
use Rattle.format.proofs.Listing.{leads_start, leads_more, leads_low, leads_lacks, leads_end}
use Rattle.lists.proofs.rows.Goals as goal

pub returns-in_err-key : goal.returns-in_err-key
returns-in_err-key c = rw c.from_residual.ensures (record { is = leads_lacks c.loop-i.invariant.0 (omega (arith, c.loop-i-test.true)) c.in_err-key.ensures.is })

pub loop-i-init : goal.loop-i-init
loop-i-init c =
    let all : c.args.count - 0 ≡ c.args.count = omega arith in
    rw all (leads_start _ _ _, c.requires)

pub returns-then-not-rises : goal.returns-then-not-rises
returns-then-not-rises c =
    let k = c.in_ok-key.ensures.is in
    record { is = leads_low c.loop-i.invariant.0 (omega (arith, c.loop-i-test.true)) k.1 (c.rises.ensures.1 c.if-not-rises.true) }

pub loop-i-preserved : goal.loop-i-preserved
loop-i-preserved c =
    let k = c.in_ok-key.ensures.is in
    let one : c.args.count - c.loop-i._i - 1 ≡ c.args.count - (c.loop-i._i + 1) = omega arith in
    let more = leads_more c.loop-i.invariant.0 (omega (arith, c.loop-i-test.true)) k.1 (c.rises.ensures.0 c.if-not-rises.false) in
    rw (← one) (more, k.1.within)

pub returns : goal.returns
returns c = record { is = leads_end c.loop-i.invariant.0 (omega (arith, c.loop-i-test.false)) c.loop-i.invariant.1 }
