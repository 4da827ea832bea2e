-- Upstream's table from addresses, endpoint_hashmap_t.HashMap, is a partial map. Here it is kept in two steps: n addresses have numbers, and something
-- is kept under each number.
-- Assumes nothing.
use Rattle.std.specs.Prelude.{◌≡◌, ℕ, ◌<◌}
use Rattle.std.proofs.Math.Option.{Option, none, some}
use Rattle.message.specs.Message.{Address}

-- the partial map m has, at the address of each number i below n, what is kept under i, and nothing else
pub record Maps {A : Type 0} (n : ℕ) (N : ℕ → Address) (f : ℕ → A) (m : Address → Option A) : Type 0 where
  pub known : (i : ℕ) → i < n → m (N i) ≡ some (f i)
  pub unknown : (a : Address) → ((i : ℕ) → i < n → N i ≡ a → ⊥) → m a ≡ none
