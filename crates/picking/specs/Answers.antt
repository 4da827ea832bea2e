-- What finding a place and a number for a message answers.
-- Assumes nothing.
use Rattle.std.specs.Prelude.{◌≡◌, List, ℕ, ◌≤◌, ◌<◌, Option, Some, None, Result, Ok, Err}
use Rattle.limits.specs.Limits.{numbers}
use Rattle.delivery.specs.Post.{Post, next}
use Rattle.delivery.specs.Memory.{Keeps, Open, capacity, mark_at}
use Rattle.picking.specs.declared.Refused.{Refused}
use Rattle.picking.specs.declared.Refused.TheVariants.{NoNumber, NoPlace}

-- a free place, or every place is taken
abbrev pub FreeCases : Option ℕ → List ℕ → Type 0
FreeCases (Some p) places = Open places p
FreeCases None places = (p : ℕ) → p < capacity places → 0 < mark_at places p

pub record AfterFree (places : List ℕ) (r : Option ℕ) : Type 0 where
  pub is : FreeCases r places

-- a free place and the number for the next message to the peer, or there is no such number, or there is one and every place is taken
abbrev pub PickCases : Result (ℕ × ℕ) Refused → (counts places : List ℕ) → ℕ → Type 0
PickCases (Ok (p, x)) counts places peer =
    Open places p × ((mail : List ℕ) (size n : ℕ) (P : Post) → Keeps counts places mail size n P → peer < n → x ≡ next P peer)
PickCases (Err NoNumber) counts places peer =
    (mail : List ℕ) (size n : ℕ) (P : Post) → Keeps counts places mail size n P → peer < n → numbers ≤ next P peer
PickCases (Err NoPlace) counts places peer =
    ((p : ℕ) → p < capacity places → 0 < mark_at places p)
    × ((mail : List ℕ) (size n : ℕ) (P : Post) → Keeps counts places mail size n P → peer < n → next P peer < numbers)

pub record AfterPick (counts places : List ℕ) (peer : ℕ) (r : Result (ℕ × ℕ) Refused) : Type 0 where
  pub is : PickCases r counts places peer
