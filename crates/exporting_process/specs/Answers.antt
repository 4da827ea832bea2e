-- What the exported function that processes answers: the contract of processing, with the host's numbers in words and the outcome as a fixed number.
-- Assumes nothing.
use Rattle.std.specs.Prelude.{◌≡◌, List, ℕ, ◌≤◌, ◌<◌, length, get_or}
use Rattle.numbers.specs.Words.{words, place_word, state_of}
use Rattle.hosts.specs.declared.Done.{Done}
use Rattle.hosts.specs.Memory.{Memory}
use Rattle.processing.specs.Answers.{AfterProcess}
use Rattle.codes.specs.Codes.{unfit, processed_code, processed_place_of}

-- the words hold the numbers after a step that answered d, r and the last word tell its outcome; or there are too few words and nothing has changed
pub record Processing (m : Memory) (room numbers : List ℕ) (r : ℕ) (m' : Memory) (numbers' : List ℕ) : Type 0 where
  pub is : words ≤ length numbers
      → (d : Done) × AfterProcess m (state_of numbers) room d m' × (state_of numbers' ≡ d.state) × (r ≡ processed_code d.outcome)
      × (get_or numbers' place_word 0 ≡ processed_place_of d.outcome)
  pub short : length numbers < words → (r ≡ unfit) × (m' ≡ m) × (numbers' ≡ numbers)

-- r and the last word tell what became of the step that answered d, and the words hold its numbers
pub record KeptStep (d : Done) (numbers numbers' : List ℕ) (r : ℕ) : Type 0 where
  pub told : r ≡ processed_code d.outcome
  pub stored : words ≤ length numbers → (state_of numbers' ≡ d.state) × (get_or numbers' place_word 0 ≡ processed_place_of d.outcome)
