use mathlib.Core.Path.{◌≡◌}
use Prim.Native.Nat.{◌+◌, ◌-◌, ◌≤◌}
use lib.ListN.{length}
use Rattle.memory.specs.Bytes.{placed}
use Rattle.format.specs.Format.{rows}
use Rattle.delegating.specs.Columns.{entered}
use Rattle.sizes.specs.Sizes.{sizes}
use Rattle.delegating.proofs.entries.Given as goal

abbrev pub invariant-loop-i : goal.invariant-loop-i
invariant-loop-i l = (length l.d ≡ length l.initial.d) × (l.at + sizes l.lens l.i (l.m - l.i) ≤ length l.d)
    × (placed l.d l.at (rows (entered l.keys l.ats l.lens l.bytes l.i (l.m - l.i))) ≡ placed l.initial.d l.from (rows (entered l.keys l.ats l.lens l.bytes 0 l.m)))
