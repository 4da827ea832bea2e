-- The answer of a turn, from the contracts of what is called.
-- Assumes nothing.
use mathlib.Core.Path.{◌≡◌, sym, ap, ◌∙◌, subst}
use mathlib.Core.Bool.{Bool}
use mathlib.Core.List.{List}
use Prim.Native.Nat.{ℕ, ◌≤◌}
use lib.ListN.{length}
use Rattle.message.specs.Message.{Address}
use Rattle.hosts.specs.declared.State.{State}
use Rattle.hosts.specs.Memory.{Memory}
use Rattle.numbers.specs.Words.{words, state_of}
use Rattle.rounds.specs.declared.Ended.{Ended}
use Rattle.turning.specs.Answers.{Lent, AfterTurn}
use Rattle.codes.specs.Codes.{unfit, turned_code}
use Rattle.codes.proofs.Laws.{turned_refused}
use Rattle.exporting_turn.specs.Answers.{Turning, KeptTurn}

pub turned : {m m' : Memory} {room room' numbers numbers' : List ℕ} {arrived : Bool} {a : Address} {s ack ack' out out' : List ℕ} {r : ℕ} {k : State}
    {d : Ended} → words ≤ length numbers → (words ≤ length numbers → k ≡ state_of numbers)
    → AfterTurn m k room arrived a s ack out d m' room' ack' out' → KeptTurn d numbers numbers' r
    → Turning m room numbers arrived a s ack out r m' room' numbers' ack' out'
turned {m} {m'} {room} {room'} {arrived = arrived} {a} {s} {ack} {ack'} {out} {out'} {r} {d = d} w loaded after kept = record {
  is = λ h L.
      let S = kept.stored h (λ e. took L e) in (d, subst (λ x. AfterTurn m x room arrived a s ack out d m' room' ack' out') (loaded h) after, S.0, kept.told, S.1);
  short = λ n. kept.told ∙ ap turned_code (after.refused (n w)).0;
  refused = λ e. let R = after.refused (λ L. took L e) in (R.2, R.3, kept.left e, R.4, R.5);
}
  where
    took : Lent m ack out → r ≡ unfit → ⊥
    took L e = turned_refused d.outcome (after.fit L) (sym kept.told ∙ e)
