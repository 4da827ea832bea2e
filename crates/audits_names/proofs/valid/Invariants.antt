use Rattle.peers.specs.Names.{Keeps}
use Rattle.audits_names.specs.Inner.{name_at}
use Rattle.audits_names.proofs.valid.Given as goal

abbrev pub invariant-loop-i : goal.invariant-loop-i
invariant-loop-i l = Keeps l.lens l.names l.width l.i (name_at l.lens l.names l.width)
