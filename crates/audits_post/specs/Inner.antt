-- What the private functions answer. A caller of the crate need not read this.
-- Assumes nothing.
use Rattle.std.specs.Prelude.{◌≡◌, Bool, true, false, List, ℕ, suc, ◌≤◌, ◌<◌, Option, Some, None}
use Rattle.delivery.specs.Memory.{acknowledged_of, last_of, capacity, mark_at, number_at, length_at}

-- r says whether A holds
pub record Tells (A : Type 0) (r : Bool) : Type 0 where
  pub yes : r ≡ true → A
  pub no : r ≡ false → A → ⊥

-- place p has that mark and number
abbrev pub Stands : List ℕ → ℕ → ℕ → ℕ → Type 0
Stands places mark x p = (mark_at places p ≡ mark) × (number_at places p ≡ x)

-- r is the first such place, or there is none
abbrev pub FirstCases : Option ℕ → List ℕ → ℕ → ℕ → Type 0
FirstCases (Some p) places mark x = (p < capacity places) × Stands places mark x p × ((q : ℕ) → q < p → Stands places mark x q → ⊥)
FirstCases None places mark x = (q : ℕ) → q < capacity places → Stands places mark x q → ⊥

pub record First (places : List ℕ) (mark x : ℕ) (r : Option ℕ) : Type 0 where
  pub is : FirstCases r places mark x

-- place p is free; or it is for one of the first n peers, its datagram has room, its number is one of a message that waits for that peer, and no
-- place before it has both
pub record Fits (counts places : List ℕ) (size n p : ℕ) : Type 0 where
  pub peer : (i : ℕ) → mark_at places p ≡ suc i → i < n
  pub short : (i : ℕ) → mark_at places p ≡ suc i → length_at places p ≤ size
  pub above : (i : ℕ) → mark_at places p ≡ suc i → acknowledged_of counts i < number_at places p
  pub upto : (i : ℕ) → mark_at places p ≡ suc i → number_at places p ≤ last_of counts i
  pub new : (i : ℕ) → mark_at places p ≡ suc i → (q : ℕ) → q < p → Stands places (suc i) (number_at places p) q → ⊥

abbrev pub AllFit : (counts places : List ℕ) → ℕ → ℕ → Type 0
AllFit counts places size n = (p : ℕ) → p < capacity places → Fits counts places size n p

-- each number after those that peer i has acknowledged, up to the last, has its place
pub record Told (counts places : List ℕ) (i : ℕ) : Type 0 where
  pub ordered : acknowledged_of counts i ≤ last_of counts i
  pub all : (x : ℕ) → acknowledged_of counts i < x → x ≤ last_of counts i → (p : ℕ) × (p < capacity places) × Stands places (suc i) x p

abbrev pub AllTold : (counts places : List ℕ) → ℕ → Type 0
AllTold counts places n = (i : ℕ) → i < n → Told counts places i
