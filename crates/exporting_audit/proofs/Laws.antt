-- The answer of the audit, from the contracts of what is called.
-- Assumes nothing.
use mathlib.Core.Path.{◌≡◌, subst}
use mathlib.Core.Bool.{Bool}
use mathlib.Core.List.{List}
use Prim.Native.Nat.{ℕ, ◌≤◌}
use native.Mathlib.Omega.{arith}
use lib.ListN.{length}
use Rattle.hosts.specs.declared.State.{State}
use Rattle.hosts.specs.Memory.{Memory}
use Rattle.numbers.specs.Words.{words, state_of}
use Rattle.auditing.specs.Answers.{Audited}
use Rattle.codes.specs.Codes.{audited_code}
use Rattle.exporting_audit.specs.Answers.{Auditing}

pub audited : {m : Memory} {room numbers : List ℕ} {r : ℕ} {k : State} {b : Bool} → words ≤ length numbers
    → (words ≤ length numbers → k ≡ state_of numbers) → Audited m k room b → r ≡ audited_code b → Auditing m room numbers r
audited {m} {room} {b = b} w loaded answer code = record {
  is = λ h. (b, subst (λ x. Audited m x room b) (loaded h) answer, code);
  short = λ h. absurd (omega (arith, w, h));
}
