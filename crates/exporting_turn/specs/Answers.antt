-- What the exported function for a turn answers: the contract of a turn, with the host's numbers in words and the outcome as a fixed number.
-- Assumes nothing.
use Rattle.std.specs.Prelude.{◌≡◌, Bool, List, ℕ, ◌≤◌, length, get_or}
use Rattle.message.specs.Message.{Address}
use Rattle.hosts.specs.Memory.{Memory}
use Rattle.numbers.specs.Words.{words, place_word, state_of}
use Rattle.rounds.specs.declared.Ended.{Ended}
use Rattle.turning.specs.Answers.{Lent, AfterTurn}
use Rattle.codes.specs.Codes.{unfit, turned_code, turned_place_of}

-- The words hold the numbers after a turn that answered d, and r and the last word tell its outcome. Too few words, too few bytes for an Ack or too
-- few places for what is sent again are refused, and a refusal leaves all as it was
pub record Turning (m : Memory) (room numbers : List ℕ) (arrived : Bool) (a : Address) (s ack out : List ℕ) (r : ℕ) (m' : Memory)
    (room' numbers' ack' out' : List ℕ) : Type 0 where
  pub is : words ≤ length numbers → Lent m ack out
      → (d : Ended) × AfterTurn m (state_of numbers) room arrived a s ack out d m' room' ack' out' × (state_of numbers' ≡ d.state)
      × (r ≡ turned_code d.outcome) × (get_or numbers' place_word 0 ≡ turned_place_of d.outcome d.place)
  pub short : (words ≤ length numbers → Lent m ack out → ⊥) → r ≡ unfit
  pub refused : r ≡ unfit → (m' ≡ m) × (room' ≡ room) × (numbers' ≡ numbers) × (ack' ≡ ack) × (out' ≡ out)

-- r tells what became of the turn that answered d. Its numbers are written down unless it was refused
pub record KeptTurn (d : Ended) (numbers numbers' : List ℕ) (r : ℕ) : Type 0 where
  pub told : r ≡ turned_code d.outcome
  pub stored : words ≤ length numbers → (r ≡ unfit → ⊥) → (state_of numbers' ≡ d.state) × (get_or numbers' place_word 0 ≡ turned_place_of d.outcome d.place)
  pub left : r ≡ unfit → numbers' ≡ numbers
