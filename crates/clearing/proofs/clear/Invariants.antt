use Rattle.clearing.proofs.Laws.{Passed}
use Rattle.clearing.proofs.clear.Given as goal

abbrev pub invariant-loop-p : goal.invariant-loop-p
invariant-loop-p l = Passed l.initial.places l.mark l.x l.p l.places
