-- What is written at each place passed is the entry's.
use mathlib.Core.Path.{◌≡◌}
use mathlib.Core.List.{List}
use mathlib.Core.Option.{some}
use Prim.Native.Nat.{ℕ, ◌+◌, ◌≤◌, ◌<◌}
use lib.ListN.{length, get_or}
use Rattle.records.specs.Table.{Table}
use Rattle.memory.specs.Bytes.{part}
use Rattle.records.specs.Memory.{Keeps}
use Rattle.ranges.proofs.note.Given as goal

-- at and len are where the value of the key at place p stands, and lie within the values in any case
abbrev pub Stands : (keys slots lens values : List ℕ) → (n p at len : ℕ) → Type 0
Stands keys slots lens values n p at len =
    (at + len ≤ length values) × ((T : Table) → Keeps keys slots lens values n T → T (get_or keys p 0) ≡ some (part values at len))

abbrev pub invariant-loop-y : goal.invariant-loop-y
invariant-loop-y l = ((k : ℕ) → k < l.y → get_or l.to_keys k 0 ≡ get_or l.keys (l.i + k) 0)
    × ((k : ℕ) → k < l.y → Stands l.keys l.slots l.lens l.values l.n (l.i + k) (get_or l.to_ats k 0) (get_or l.to_lens k 0))
