-- `boundary::turn::tagshards_turn` meets its contract.
-- Assumes nothing.
use Rattle.boundary.proofs.turn.tagshards_turn.Goals as goal

pub returns : goal.returns
returns c =
    c.turn.ensures
