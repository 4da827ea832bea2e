-- What the exported function that sends again answers: the contract of sending again, with the host's numbers in words and the outcome as a fixed number.
-- Assumes nothing.
use Rattle.std.specs.Prelude.{◌≡◌, List, ℕ, ◌≤◌, ◌<◌, length, Result}
use Rattle.numbers.specs.Words.{words, state_of}
use Rattle.limits.specs.declared.NoRoom.{NoRoom}
use Rattle.repeating.specs.Answers.{AfterRepeat}
use Rattle.codes.specs.Codes.{no_places, repeated_code}

-- sending again answered a, r tells it; or there are too few words and nothing has changed. The words stay as they were
pub record Repeating (counts places numbers out : List ℕ) (r : ℕ) (out' : List ℕ) : Type 0 where
  pub is : words ≤ length numbers → (a : Result ℕ NoRoom) × AfterRepeat counts places (state_of numbers) out a out' × (r ≡ repeated_code a)
  pub short : length numbers < words → (r ≡ no_places) × (out' ≡ out)
