use Prim.Native.Nat.{◌≤◌, ◌-◌}
use lib.ListN.{length}
use Rattle.lists.specs.Answers.{lowest}
use Rattle.format.specs.Place.{Leads}
use Rattle.lists.proofs.rows.Given as goal

abbrev pub invariant-loop-i : goal.invariant-loop-i
invariant-loop-i l = Leads l.s l.from l.count l.at (l.count - l._i) (lowest l.last) × (l.at ≤ length l.s)
