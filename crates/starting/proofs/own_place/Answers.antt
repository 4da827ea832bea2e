-- `starting::own_place` meets its contract.
-- Assumes nothing.
use Rattle.starting.proofs.Laws.{unformed, repeats, lengthy, sought}
use Rattle.starting.proofs.own_place.Goals as goal
use Rattle.starting.proofs.own_place.Goals.{then-not-inside-via-then-not-inside, then-not-inside-via-else-not-inside+then-not-distinct, then-not-inside-via-else-not-inside+else-not-distinct+then-not-none_longer}

pub returns-then-not-inside : goal.returns-then-not-inside
returns-then-not-inside c =
    elim c.then-not-inside.branch [
      | then-not-inside-via-then-not-inside w ↦ unformed c.inside.ensures w.if-not-inside.true
      | then-not-inside-via-else-not-inside+then-not-distinct w ↦ repeats w.distinct.ensures w.if-not-distinct.true
      | then-not-inside-via-else-not-inside+else-not-distinct+then-not-none_longer w ↦ lengthy w.none_longer.ensures w.if-not-none_longer.true
    ]

pub returns : goal.returns
returns c =
    sought _ (c.inside.ensures.yes c.if-not-inside.false) c.distinct.ensures c.if-not-distinct.false (c.none_longer.ensures.yes c.if-not-none_longer.false) c.place.ensures
