-- What the exported function for a datagram that arrives answers: the contract of receiving, with the host's numbers in words and the outcome as a fixed
-- number.
-- Assumes nothing.
use Rattle.std.specs.Prelude.{◌≡◌, List, ℕ, ◌≤◌, length}
use Rattle.message.specs.Message.{Address}
use Rattle.hosts.specs.Memory.{Memory}
use Rattle.numbers.specs.Words.{words, state_of}
use Rattle.incoming.specs.declared.Arrival.{Arrival}
use Rattle.incoming.specs.Answers.{ack_length}
use Rattle.receiving.specs.Answers.{AfterReceive}
use Rattle.codes.specs.Codes.{unfit, received_code}

-- The words hold the numbers after receiving answered d, the last word any number, and r tells its outcome. Too few words or too few bytes for an Ack
-- are refused, and a refusal leaves all as it was
pub record Receiving (m : Memory) (room numbers : List ℕ) (a : Address) (s ack : List ℕ) (r : ℕ) (m' : Memory) (room' numbers' ack' : List ℕ)
    : Type 0 where
  pub is : words ≤ length numbers → ack_length ≤ length ack
      → (d : Arrival) × AfterReceive m (state_of numbers) room a s ack d m' room' ack' × (state_of numbers' ≡ d.state)
      × (r ≡ received_code d.outcome)
  pub short : (words ≤ length numbers → ack_length ≤ length ack → ⊥) → r ≡ unfit
  pub refused : r ≡ unfit → (m' ≡ m) × (room' ≡ room) × (numbers' ≡ numbers) × (ack' ≡ ack)

-- r tells what became of the datagram for which receiving answered d, and the words hold its numbers
pub record KeptArrival (d : Arrival) (numbers numbers' : List ℕ) (r : ℕ) : Type 0 where
  pub told : r ≡ received_code d.outcome
  pub stored : words ≤ length numbers → state_of numbers' ≡ d.state
