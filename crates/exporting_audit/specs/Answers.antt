-- What the exported audit answers: the contract of the audit, with the host's numbers in words and the answer as a fixed number.
-- Assumes nothing.
use Rattle.std.specs.Prelude.{◌≡◌, Bool, List, ℕ, ◌≤◌, ◌<◌, length}
use Rattle.hosts.specs.Memory.{Memory}
use Rattle.numbers.specs.Words.{words, state_of}
use Rattle.auditing.specs.Answers.{Audited}
use Rattle.codes.specs.Codes.{unfit, audited_code}

-- the audit answered b, r tells it; or there are too few words
pub record Auditing (m : Memory) (room numbers : List ℕ) (r : ℕ) : Type 0 where
  pub is : words ≤ length numbers → (b : Bool) × Audited m (state_of numbers) room b × (r ≡ audited_code b)
  pub short : length numbers < words → r ≡ unfit
