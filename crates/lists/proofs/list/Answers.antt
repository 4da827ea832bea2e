-- `lists::list` meets its contract.
-- Assumes nothing.
use native.Mathlib.Omega.{arith}
use Rattle.format.proofs.Listing.{entries_none, entries_long}
use Rattle.lists.proofs.list.Goals as goal

pub returns-in_err-next : goal.returns-in_err-next
returns-in_err-next c = rw c.from_residual-in_err-next.ensures (record { is = entries_none _ c.in_ok-count.ensures.is c.in_err-next.ensures.is })

pub returns-then-limit-next : goal.returns-then-limit-next
returns-then-limit-next c =
    record { is = entries_long _ c.in_ok-count.ensures.is c.in_ok-next.ensures.is (omega (arith, c.if-limit-next.true)) }
