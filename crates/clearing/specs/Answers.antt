-- What is left of the places after a pass over them.
-- Assumes nothing.
use Rattle.std.specs.Prelude.{◌≡◌, List, ℕ, ◌≤◌, ◌<◌, length}
use Rattle.delivery.specs.Memory.{capacity, mark_at, number_at, length_at}

-- exactly the places with that mark and a number up to x are free now
pub record Cleared (places : List ℕ) (mark x : ℕ) (places' : List ℕ) : Type 0 where
  pub long : length places' ≡ length places
  pub gone : (p : ℕ) → p < capacity places → mark_at places p ≡ mark → number_at places p ≤ x → mark_at places' p ≡ 0
  pub other : (p : ℕ) → p < capacity places → (mark_at places p ≡ mark → x < number_at places p) → mark_at places' p ≡ mark_at places p
  pub numbers : (p : ℕ) → p < capacity places → number_at places' p ≡ number_at places p
  pub lengths : (p : ℕ) → p < capacity places → length_at places' p ≡ length_at places p
