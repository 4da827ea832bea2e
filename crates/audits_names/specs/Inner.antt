-- What the private function answers. A caller of the crate need not read this.
-- Assumes nothing.
use Rattle.std.specs.Prelude.{◌≡◌, Bool, true, false, List, ℕ, ◌*◌, ◌≤◌, ◌<◌, get_or}
use Rattle.memory.specs.Bytes.{part}
use Rattle.peers.specs.Names.{Keeps}

-- the address that stands at place i
abbrev pub name_at : (lens names : List ℕ) → ℕ → ℕ → List ℕ
name_at lens names width i = part names (i * width) (get_or lens i 0)

-- memory that keeps the addresses before place i keeps the one there, too, or none can
pub record Fresh (lens names : List ℕ) (width i : ℕ) (r : Bool) : Type 0 where
  pub yes : r ≡ true → Keeps lens names width i (name_at lens names width)
      → (get_or lens i 0 ≤ width) × ((j : ℕ) → j < i → name_at lens names width j ≡ name_at lens names width i → ⊥)
  pub no : r ≡ false → (n : ℕ) (N : ℕ → List ℕ) → i < n → Keeps lens names width n N → ⊥
