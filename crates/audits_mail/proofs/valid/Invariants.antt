use mathlib.Core.List.{List}
use Prim.Native.Nat.{ℕ, ◌<◌}
use Rattle.message.specs.Message.{Address}
use Rattle.peers.specs.Names.{Keeps as KeepsNames}
use Rattle.delivery.specs.Post.{Post}
use Rattle.delivery.specs.Memory.{Keeps as KeepsPost}
use Rattle.audits_mail.specs.Answers.{Delivers}
use Rattle.audits_mail.proofs.valid.Given as goal

abbrev pub invariant-loop-p : goal.invariant-loop-p
invariant-loop-p l = (k : ℕ) → k < l.p → (n : ℕ) (N : ℕ → Address) → KeepsNames l.lens l.names l.width n N → (counts : List ℕ) (P : Post) → KeepsPost counts l.places l.mail l.size n P
    → Delivers l.places l.mail l.size N k
