use mathlib.Core.Path.{◌≡◌}
use lib.ListN.{length}
use Rattle.distinct.specs.Distinct.{string}
use Rattle.peers.specs.Names.{Keeps as KeepsNames}
use Rattle.starting.proofs.enlist.Given as goal

abbrev pub invariant-loop-i : goal.invariant-loop-i
invariant-loop-i l = (length l.lens ≡ length l.initial.lens) × (length l.names ≡ length l.initial.names) × KeepsNames l.lens l.names l.width l.i (string l.ats l.address_lens l.bytes)
