-- What the private function answers. A caller of the crate need not read this.
-- Assumes nothing.
use Rattle.std.specs.Prelude.{◌≡◌, List, ℕ, ◌+◌, ◌≤◌, ◌<◌, length, get_or}
use Rattle.std.proofs.Math.Option.{some}
use Rattle.records.specs.Table.{Table}
use Rattle.memory.specs.Bytes.{part}
use Rattle.records.specs.Memory.{Keeps}

-- the m entries from place i on, each by its key and the place and length of its value
pub record Noted (keys slots lens values : List ℕ) (n i m : ℕ) (ks ats ls : List ℕ) : Type 0 where
  pub key : (y : ℕ) → y < m → get_or ks y 0 ≡ get_or keys (i + y) 0
  pub inside : (y : ℕ) → y < m → get_or ats y 0 + get_or ls y 0 ≤ length values
  pub value : (T : Table) → Keeps keys slots lens values n T → (y : ℕ) → y < m
      → T (get_or keys (i + y) 0) ≡ some (part values (get_or ats y 0) (get_or ls y 0))
