-- `rows::row` meets its contract.
-- Assumes nothing.
use Rattle.rows.proofs.Laws.{gets, sets, shards, delegates, replies, redirects}
use Rattle.rows.proofs.row.Goals as goal

pub returns-in-Get-clause-is : goal.returns-in-Get-clause-is
returns-in-Get-clause-is c =
    let map = c.view.ensures in
    let index = c.view-in-Get.ensures in
    let values = c.view-in-Get-2.ensures in
    gets c.in-Get.is (rw (map.lows, map.owners, index.keys, index.slots, values.lens, values.bytes) at c.get.ensures.is)

pub returns-in-Set-clause-is : goal.returns-in-Set-clause-is
returns-in-Set-clause-is c = sets c.in-Set.is (rw (c.view-in-Set.ensures.lows, c.view-in-Set.ensures.owners) at c.set.ensures.is)

pub returns-in-Reply-clause-is : goal.returns-in-Reply-clause-is
returns-in-Reply-clause-is c = replies c.in-Reply.is c.dropped.ensures

pub returns-in-Redirect-clause-is : goal.returns-in-Redirect-clause-is
returns-in-Redirect-clause-is c = redirects c.in-Redirect.is c.dropped-in-Redirect.ensures

pub returns-else-many-clause-is : goal.returns-else-many-clause-is
returns-else-many-clause-is c =
    shards c.in-Shard.is (c.many.ensures.no c.if-many.false) (rw (c.view-in-Shard.ensures.lens, c.view-in-Shard.ensures.bytes) at c.shard.ensures.is.is)

pub returns-else-many-2-clause-is : goal.returns-else-many-2-clause-is
returns-else-many-2-clause-is c =
    delegates c.in-Delegate.is (c.many-in-Delegate.ensures.no c.if-many-2.false) (c.delegate.ensures.is.is _ _ _ _ _)
