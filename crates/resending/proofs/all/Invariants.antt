use mathlib.Core.Path.{◌≡◌}
use mathlib.Core.List.{List}
use Prim.Native.Nat.{ℕ, ◌≤◌}
use lib.ListN.{length}
use Rattle.delivery.specs.Post.{Post}
use Rattle.delivery.specs.Memory.{Keeps}
use Rattle.resending.specs.Answers.{letters, named, Within}
use Rattle.resending.proofs.all.Given as goal

abbrev pub invariant-loop-i : goal.invariant-loop-i
invariant-loop-i l = (length l.out ≡ length l.initial.out) × (l.at ≤ length l.out) × (l.i ≤ l.n) × Within l.places l.at l.out
    × ((mail : List ℕ) (size : ℕ) (P : Post) → Keeps l.counts l.places mail size l.n P → named l.places mail size l.at l.out ≡ letters l.i P)
