-- What the private functions answer. A caller of the crate need not read this.
-- Assumes nothing.
use Rattle.std.specs.Prelude.{◌≡◌, Bool, true, false, List, ℕ, suc, ◌<◌, get_or}

-- neighbours among the first n have different owners
abbrev pub Joined : List ℕ → ℕ → Type 0
Joined owners n = (i : ℕ) → suc i < n → get_or owners i 0 ≡ get_or owners (suc i) 0 → ⊥

pub record Turning (owners : List ℕ) (n : ℕ) (r : Bool) : Type 0 where
  pub yes : r ≡ true → Joined owners n
  pub no : r ≡ false → Joined owners n → ⊥

-- the first n owners are hosts
abbrev pub Hosts : List ℕ → ℕ → ℕ → Type 0
Hosts owners n hosts = (i : ℕ) → i < n → get_or owners i 0 < hosts

pub record Owned (owners : List ℕ) (n hosts : ℕ) (r : Bool) : Type 0 where
  pub yes : r ≡ true → Hosts owners n hosts
  pub no : r ≡ false → Hosts owners n hosts → ⊥
