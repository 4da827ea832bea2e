-- `shards::recipient` meets its contract.
-- Assumes nothing.
use native.Mathlib.Omega.{arith}
use Rattle.shards.proofs.Laws.{nobody, myself, another}
use Rattle.shards.proofs.recipient.Goals as goal

pub returns-in_err-i : goal.returns-in_err-i
returns-in_err-i c = rw c.from_residual.ensures (nobody c.in_err-i.ensures)

pub returns-then-i-k : goal.returns-then-i-k
returns-then-i-k c =
    myself c.in_ok-i.ensures (omega (arith, c.if-i-k.true))

pub returns : goal.returns
returns c =
    another c.in_ok-i.ensures (λ e. omega (arith, c.if-i-k.false))
