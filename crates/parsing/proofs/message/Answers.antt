-- `parsing::message` meets its contract.
-- Assumes nothing.
use native.Mathlib.Omega.{arith}
use lib.ListN.{length}
use Rattle.format.proofs.Reading.{pair_found, pair_first, pair_second, choice_found, choice_lacks}
use Rattle.message.specs.Table.{datagrams, parts}
use Rattle.parsing.proofs.Parts.{whole, none, trailing}
use Rattle.parsing.proofs.message.Goals as goal

pub returns-in_err-n : goal.returns-in_err-n
returns-in_err-n c =
    rw c.from_residual.ensures (record { is = none (choice_lacks _ _ (length datagrams) parts 0 c.requires.1 (pair_first _ _ c.in_err-n.ensures.is)) })

pub returns-in_err-address : goal.returns-in_err-address
returns-in_err-address c =
    let a = pair_second _ _ c.in_ok-n.ensures.is (pair_first _ _ c.in_err-address.ensures.is) in
    rw c.from_residual-in_err-address.ensures (record { is = none (choice_lacks _ _ (length datagrams) parts 0 c.requires.1 a) })

pub returns-in_err-b : goal.returns-in_err-b
returns-in_err-b c =
    let b = pair_second _ _ c.in_ok-n.ensures.is (pair_second _ _ c.in_ok-address.ensures.is.1 c.in_err-b.ensures.is) in
    rw c.from_residual-in_err-b.ensures (record { is = none (choice_lacks _ _ (length datagrams) parts 0 c.requires.1 b) })

pub returns-then-next-s : goal.returns-then-next-s
returns-then-next-s c =
    let b = pair_found _ _ c.in_ok-n.ensures.is (pair_found _ _ c.in_ok-address.ensures.is.1 c.in_ok-b.ensures.is.0) in
    record { is = trailing (choice_found _ _ (length datagrams) parts c.requires.0 c.requires.1 (omega arith) b) c.if-next-s.true }

pub returns : goal.returns
returns c =
    let t = c.in_ok-address.ensures.is in
    let b = c.in_ok-b.ensures.is in
    let d = choice_found _ _ (length datagrams) parts c.requires.0 c.requires.1 (omega arith) (pair_found _ _ c.in_ok-n.ensures.is (pair_found _ _ t.1 b.0)) in
    record { is = (d.good, whole d c.if-next-s.false, t.1.within, b.1) }
