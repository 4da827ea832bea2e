-- `shards::movable` meets its contract.
-- Assumes nothing.
use mathlib.Core.Path.{sym, ap, ◌∙◌}
use mathlib.Core.Bool.{not, false≢true}
use borrow.Author.Tests.{not-true, not-false}
use Rattle.shards.proofs.Laws.{movable_empty, movable_other, movable_counted}
use Rattle.shards.proofs.movable.Goals as goal
use Rattle.shards.proofs.movable.Goals.{then-not-is_empty, else-not-is_empty}

pub returns-then-whole : goal.returns-then-whole
returns-then-whole c =
    elim c.if-not-is_empty.branch [
      | then-not-is_empty w ↦ movable_counted (not-false _ (sym c.is_empty.ensures ∙ w.if-not-is_empty.true)) w.whole.ensures (sym w.value-is ∙ c.if-whole.true) c.count.ensures
      | else-not-is_empty w ↦ absurd (false≢true (sym (w.value-is ∙ ap not w.if-not-is_empty.false) ∙ c.if-whole.true))
    ]

pub returns-else-whole : goal.returns-else-whole
returns-else-whole c =
    rw c.if-whole.false (elim c.if-not-is_empty.branch [
      | then-not-is_empty w ↦ movable_other (not-false _ (sym c.is_empty.ensures ∙ w.if-not-is_empty.true)) w.whole.ensures (sym w.value-is ∙ c.if-whole.false)
      | else-not-is_empty w ↦ movable_empty (not-true _ (sym c.is_empty.ensures ∙ w.if-not-is_empty.false))
    ])
