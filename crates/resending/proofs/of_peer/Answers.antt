-- `resending::of_peer` meets its contract.
-- Assumes nothing.
use mathlib.Core.Path.{◌≡◌, ◌∙◌}
use Prim.Native.Nat.{suc, ◌+◌, ◌-◌, ◌<◌}
use native.Mathlib.Omega.{arith}
use lib.ListN.{length, length-set}
use Rattle.resending.specs.Answers.{named}
use Rattle.resending.proofs.Laws.{within_more, letter_more}
use Rattle.resending.proofs.of_peer.Goals as goal

pub loop-number-preserved : goal.loop-number-preserved
loop-number-preserved c =
    let a = c.args in
    let l = c.loop-number in
    let k = c.counts_of-known in
    let p = c.in-Some.p in
    let f = c.in-Some.ensures in
    let j = l.at - a.from in
    let long : l.at < length l.out = omega (arith, c.if-out-at.false) in
    let one : l.at + 1 - a.from ≡ suc j = omega (arith, l.invariant.1) in (
      length-set l.out l.at p ∙ l.invariant.0,
      omega (arith, l.invariant.1),
      omega (arith, l.invariant.0, long),
      λ w. within_more a.places.now l.out l.at p long f.is.0 (l.invariant.3 w),
      λ mail size n P K h.
          let e = l.invariant.4 mail size n P K h in
          let q : j < length (P.waiting a.peer) = omega (arith, l.invariant.1, e.0, c.loop-number-test.true, k.ensures.last _ mail size n P K h) in
          let S = f.is.1 _ mail size n P K j h q (omega (arith, l.invariant.1, e.0)) in (
            omega (arith, e.0),
            rw one (letter_more a.places.now mail l.out size l.at p a.peer _ j (named a.places.now mail size a.from a.out.now) (P.waiting a.peer) long q S e.1),
          ),
    )

pub returns-in_default : goal.returns-in_default
returns-in_default c =
    let l = c.loop-number in
    record {
      is = λ mail size n P K h.
          let e = l.invariant.4 mail size n P K h in
          absurd (c.in_default.ensures.is _ mail size n P K (l.at - c.args.from) h
          (omega (arith, l.invariant.1, e.0, c.loop-number-test.true, c.counts_of-known.ensures.last _ mail size n P K h))
          (omega (arith, l.invariant.1, e.0)));
    }
