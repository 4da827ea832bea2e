-- `rooms::roomy` meets its contract.
-- Assumes nothing.
use Rattle.rooms.proofs.Bodies.{vacant, get_room, set_room}
use Rattle.rooms.proofs.roomy.Goals as goal

pub returns-in-Get : goal.returns-in-Get
returns-in-Get c =
    get_room c.in-Get.is (vacant c.free.result c.free.ensures)

pub returns-else-too_long : goal.returns-else-too_long
returns-else-too_long c =
    set_room c.in-Set.is c.too_long.ensures c.if-too_long.false (vacant c.free-in-Set.result c.free-in-Set.ensures)
