use Rattle.delegates.proofs.Rows.{Going}
use Rattle.delegates.proofs.columns.Given as goal

abbrev pub invariant-loop-i : goal.invariant-loop-i
invariant-loop-i l = Going l.s l.from l.m l.at l.i l.ks l.ats l.ls
