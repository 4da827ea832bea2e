use mathlib.Core.Path.{◌≡◌}
use mathlib.Core.List.{List, ◌++◌, map}
use Prim.Native.Nat.{ℕ, ◌+◌, ◌-◌, ◌≤◌, ◌<◌}
use lib.ListN.{length, take}
use Rattle.delivery.specs.Post.{Post}
use Rattle.delivery.specs.Memory.{Keeps}
use Rattle.resending.specs.Answers.{letter_to, named, Within}
use Rattle.resending.proofs.of_peer.Given as goal

abbrev pub invariant-loop-number : goal.invariant-loop-number
invariant-loop-number l = (length l.out ≡ length l.initial.out) × (l.from ≤ l.at) × (l.at ≤ length l.initial.out)
    × (Within l.places l.from l.initial.out → Within l.places l.at l.out)
    × ((mail : List ℕ) (size n : ℕ) (P : Post) → Keeps l.counts l.places mail size n P → l.peer < n
    → (l.at + P.acknowledged l.peer ≡ l.from + l.number)
    × (named l.places mail size l.at l.out ≡ named l.places mail size l.from l.initial.out ++ map (letter_to l.peer) (take (l.at - l.from) (P.waiting l.peer))))
