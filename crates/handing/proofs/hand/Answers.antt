-- `handing::hand` meets its contract. That the number fits its type (`fits`) is for `omega` to find.
-- Assumes nothing.
use native.Mathlib.Omega.{arith}
use Rattle.handing.proofs.Steps.{no_place, no_number, not_sent, sent}
use Rattle.handing.proofs.hand.Goals as goal

pub returns-then-not-sent-clause-is : goal.returns-then-not-sent-clause-is
returns-then-not-sent-clause-is c =
    let v = c.view-waiting.ensures in
    let fits = rw c.in-Ok.is at c.pick.type_inv in
    not_sent (rw (v.counts, v.places) at c.in-Ok.ensures) (omega arith) (λ j. omega (arith, c.type_inv.ks j)) c.delegate-sent.ensures.is c.if-not-sent.true c.dropped.ensures

pub returns-else-not-sent-clause-is : goal.returns-else-not-sent-clause-is
returns-else-not-sent-clause-is c =
    let v = c.view-waiting.ensures in
    let fits = rw c.in-Ok.is at c.pick.type_inv in
    sent (rw (v.counts, v.places) at c.in-Ok.ensures) (omega arith) (λ j. omega (arith, c.type_inv.ks j)) c.delegate-sent.ensures.is c.if-not-sent.false c.give.ensures.is

pub returns-in-Err-NoNumber-clause-is : goal.returns-in-Err-NoNumber-clause-is
returns-in-Err-NoNumber-clause-is c =
    let v = c.view-waiting.ensures in
    no_number (rw (c.in-Err-NoNumber.field-0-is, v.counts, v.places) at c.in-Err-NoNumber.ensures) c.moved.ensures.0 c.moved.ensures.1

pub returns-in-Err-NoPlace-clause-is : goal.returns-in-Err-NoPlace-clause-is
returns-in-Err-NoPlace-clause-is c =
    let v = c.view-waiting.ensures in
    no_place (rw (c.in-Err-NoPlace.field-0-is, v.counts, v.places) at c.in-Err-NoPlace.ensures) c.dropped-in-Err-NoPlace.ensures
