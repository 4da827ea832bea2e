use mathlib.Core.Path.{◌≡◌}
use Prim.Native.Nat.{ℕ, ◌+◌, ◌≤◌, ◌<◌}
use lib.ListN.{length, get_or}
use Rattle.records.specs.Memory.{Slots}
use Rattle.removals.proofs.sink.Given as goal

abbrev pub invariant-loop-from : goal.invariant-loop-from
invariant-loop-from l = (length l.slots ≡ length l.initial.slots)
    × ((x : ℕ) → x < l.i → get_or l.slots x 0 ≡ get_or l.initial.slots x 0)
    × ((y : ℕ) → l.j + y < l.from → get_or l.slots (l.i + y) 0 ≡ get_or l.initial.slots (l.j + y) 0)
    × ((x : ℕ) → l.from ≤ x → get_or l.slots x 0 ≡ get_or l.initial.slots x 0)
    × (Slots l.initial.slots → Slots l.slots)
