-- The answer for a datagram that arrives, from the contracts of what is called.
-- Assumes nothing.
use mathlib.Core.Path.{◌≡◌, sym, ◌∙◌, subst}
use mathlib.Core.List.{List}
use Prim.Native.Nat.{ℕ, ◌≤◌}
use lib.ListN.{length}
use Rattle.message.specs.Message.{Address}
use Rattle.hosts.specs.declared.State.{State}
use Rattle.hosts.specs.Memory.{Memory}
use Rattle.numbers.specs.Words.{words, state_of}
use Rattle.incoming.specs.declared.Arrival.{Arrival}
use Rattle.incoming.specs.Answers.{ack_length}
use Rattle.receiving.specs.Answers.{AfterReceive}
use Rattle.codes.proofs.Laws.{received_refused}
use Rattle.exporting_receive.specs.Answers.{Receiving, KeptArrival}

pub received : {m m' : Memory} {room room' numbers numbers' : List ℕ} {a : Address} {s ack ack' : List ℕ} {r : ℕ} {k : State} {d : Arrival}
    → words ≤ length numbers → ack_length ≤ length ack → (words ≤ length numbers → k ≡ state_of numbers) → AfterReceive m k room a s ack d m' room' ack'
    → KeptArrival d numbers numbers' r → Receiving m room numbers a s ack r m' room' numbers' ack'
received {m} {m'} {room} {room'} {a = a} {s} {ack} {ack'} {d = d} w f loaded after kept = record {
  is = λ h g. (d, subst (λ x. AfterReceive m x room a s ack d m' room' ack') (loaded h) after, kept.stored h, kept.told);
  short = λ n. absurd (n w f);
  refused = λ e. absurd (after.fit f (received_refused d.outcome (sym kept.told ∙ e)));
}
