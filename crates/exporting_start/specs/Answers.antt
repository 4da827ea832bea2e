-- What the exported function that starts a host answers: the contract of starting, with the host's numbers in words and the outcome as a fixed number.
-- Assumes nothing.
use Rattle.std.specs.Prelude.{◌≡◌, List, ℕ, ◌≤◌, ◌<◌, length, get_or, Result, Ok, Err}
use Rattle.message.specs.Message.{Address}
use Rattle.numbers.specs.Words.{words, place_word, state_of}
use Rattle.hosts.specs.Memory.{Memory}
use Rattle.hosts.specs.declared.State.{State}
use Rattle.starting.specs.declared.Refused.{Refused}
use Rattle.starting.specs.declared.Refused.TheVariants.{NoHost, Unfit}
use Rattle.starting.specs.Answers.{AfterStart}
use Rattle.codes.specs.Codes.{unfit, started_code}

-- the words hold a new host's numbers and no place; where none starts they are as they were
abbrev pub StoredCases : Result State Refused → (numbers numbers' : List ℕ) → Type 0
StoredCases (Ok k) numbers numbers' = (state_of numbers' ≡ k) × (get_or numbers' place_word 0 ≡ 0)
StoredCases (Err NoHost) numbers numbers' = numbers' ≡ numbers
StoredCases (Err Unfit) numbers numbers' = numbers' ≡ numbers

pub record Kept (s : Result State Refused) (numbers numbers' : List ℕ) (r : ℕ) : Type 0 where
  pub is : words ≤ length numbers → (r ≡ started_code s) × StoredCases s numbers numbers'

-- starting answered s, r tells it; or there are too few words and nothing has changed
pub record Starting (m : Memory) (room numbers : List ℕ) (width size : ℕ) (ats lens bytes : List ℕ) (n : ℕ) (me : Address) (r : ℕ) (m' : Memory)
    (numbers' : List ℕ) : Type 0 where
  pub is : words ≤ length numbers
      → (s : Result State Refused) × AfterStart m room width size ats lens bytes n me s m' × (r ≡ started_code s) × StoredCases s numbers numbers'
  pub short : length numbers < words → (r ≡ unfit) × (m' ≡ m) × (numbers' ≡ numbers)
