-- What taking an Ack does.
-- Assumes nothing.
use Rattle.std.specs.Prelude.{◌≡◌, List, ◌⊎◌, ℕ, ◌<◌, length}
use Rattle.delivery.specs.Post.{Post, confirmed}
use Rattle.delivery.specs.Memory.{Keeps, capacity, mark_at, number_at, length_at}
use Rattle.clearing.specs.Answers.{Cleared}

-- the messages up to the number x have arrived at the peer
pub record AfterConfirm (counts places : List ℕ) (peer x : ℕ) (counts' places' : List ℕ) : Type 0 where
  pub is : (mail : List ℕ) (size n : ℕ) (P : Post) → Keeps counts places mail size n P → peer < n → P.acknowledged peer < x
      → Keeps counts' places' mail size n (confirmed peer x P)

-- p is the one place that is free now
pub record One (places : List ℕ) (mark x p : ℕ) (places' : List ℕ) : Type 0 where
  pub within : p < capacity places
  pub marked : mark_at places p ≡ mark
  pub numbered : number_at places p ≡ x
  pub gone : mark_at places' p ≡ 0
  pub other : (q : ℕ) → (q ≡ p → ⊥) → mark_at places' q ≡ mark_at places q

-- one place with that mark and the number x is free now, or there was none
pub record Freed (places : List ℕ) (mark x : ℕ) (places' : List ℕ) : Type 0 where
  pub long : length places' ≡ length places
  pub is : ((p : ℕ) × One places mark x p places') ⊎ ((places' ≡ places) × ((p : ℕ) → p < capacity places → mark_at places p ≡ mark → number_at places p ≡ x → ⊥))
  pub numbers : (p : ℕ) → number_at places' p ≡ number_at places p
  pub lengths : (p : ℕ) → length_at places' p ≡ length_at places p

-- no number up to `before` waits under that mark, and no two places have the same
pub record Ahead (places : List ℕ) (mark before : ℕ) : Type 0 where
  pub above : (p : ℕ) → p < capacity places → mark_at places p ≡ mark → before < number_at places p
  pub apart : (p q : ℕ) → p < capacity places → q < capacity places → mark_at places p ≡ mark → mark_at places q ≡ mark → number_at places p ≡ number_at places q → p ≡ q

-- if all that waits under that mark is above `before`, exactly the places with it and a number up to x are free now
abbrev pub Released : (places : List ℕ) → (mark before x : ℕ) → List ℕ → Type 0
Released places mark before x places' = Ahead places mark before → Cleared places mark x places'
