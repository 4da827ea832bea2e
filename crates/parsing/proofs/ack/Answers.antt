-- `parsing::ack` meets its contract.
-- Assumes nothing.
use native.Mathlib.Omega.{arith}
use lib.ListN.{length}
use Rattle.format.proofs.Reading.{choice_found, choice_lacks}
use Rattle.message.specs.Table.{datagrams, parts}
use Rattle.parsing.proofs.Parts.{whole, none, trailing}
use Rattle.parsing.proofs.ack.Goals as goal

pub returns-in_err-n : goal.returns-in_err-n
returns-in_err-n c = rw c.from_residual.ensures (record { is = none (choice_lacks _ _ (length datagrams) parts 1 c.requires.1 c.in_err-n.ensures.is) })

pub returns-then-s : goal.returns-then-s
returns-then-s c =
    record { is = trailing (choice_found _ _ (length datagrams) parts c.requires.0 c.requires.1 (omega arith) c.in_ok-n.ensures.is) c.if-s.true }

pub returns : goal.returns
returns c =
    let d = choice_found _ _ (length datagrams) parts c.requires.0 c.requires.1 (omega arith) c.in_ok-n.ensures.is in
    record { is = (d.good, whole d c.if-s.false) }
