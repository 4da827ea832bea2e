use Rattle.confirming.proofs.Laws.{Sought}
use Rattle.confirming.proofs.free.Given as goal

abbrev pub invariant-loop-at : goal.invariant-loop-at
invariant-loop-at l = Sought l.initial.places l.mark l.x l.at l.places
