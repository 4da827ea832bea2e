-- `handing::offer` meets its contract.
-- Assumes nothing.
use native.Mathlib.Omega.{arith}
use Rattle.handing.proofs.Steps.{too_many, offered}
use Rattle.handing.proofs.offer.Goals as goal

pub returns-in_default-clause-is : goal.returns-in_default-clause-is
returns-in_default-clause-is c =
    let v = c.view-table.ensures in
    too_many (rw (v.keys, v.slots) at c.in_default.ensures) (omega arith) c.dropped.ensures

pub returns-clause-is : goal.returns-clause-is
returns-clause-is c =
    let v = c.view-table.ensures in
    offered (rw (v.keys, v.slots) at c.in-Ok.ensures) (omega arith) (omega arith) (omega arith) (omega arith) c.hand.ensures.is
