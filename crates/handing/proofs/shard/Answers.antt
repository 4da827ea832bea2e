-- `handing::shard` meets its contract.
-- Assumes nothing.
use Rattle.handing.proofs.Steps.{shard_nobody, shard_other, shard_offered}
use Rattle.handing.proofs.shard.Goals as goal

pub returns-in_default-clause-is : goal.returns-in_default-clause-is
returns-in_default-clause-is c = shard_nobody c.in_default.ensures c.dropped.ensures

pub returns-then-not-all_mine-clause-is : goal.returns-then-not-all_mine-clause-is
returns-then-not-all_mine-clause-is c =
    let v = c.view.ensures in
    shard_other (rw (v.lows, v.owners) at c.all_mine.ensures) c.if-not-all_mine.true c.dropped-then-not-all_mine.ensures

pub returns-clause-is : goal.returns-clause-is
returns-clause-is c =
    let v = c.view.ensures in
    shard_offered c.in-Some.ensures (rw (v.lows, v.owners) at c.all_mine.ensures) c.if-not-all_mine.false c.offer.ensures.is
