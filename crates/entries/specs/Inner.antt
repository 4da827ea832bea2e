-- What the private functions answer. A caller of the crate need not read this.
-- Assumes nothing.
use Rattle.std.specs.Prelude.{◌≡◌, List, ℕ, ◌+◌, ◌≤◌, ◌<◌, length, get_or}
use Rattle.std.proofs.Math.Option.{none, some}
use Rattle.limits.specs.Limits.{value_max}
use Rattle.records.specs.Table.{Table, put, storing, Size}
use Rattle.memory.specs.Bytes.{part}
use Rattle.records.specs.Memory.{Keeps}
use Rattle.entered.specs.Entered.{Entered}

-- the entry is stored, if its value lies within the bytes, is short enough, and there is a place for a new key
pub record AfterOne (keys slots lens values : List ℕ) (n key at len : ℕ) (bytes : List ℕ) (r : ℕ) (keys' slots' lens' values' : List ℕ)
    : Type 0 where
  pub is : (T : Table) → Keeps keys slots lens values n T → at + len ≤ length bytes → len ≤ value_max → (T key ≡ none → n < length slots)
      → Keeps keys' slots' lens' values' r (put key (some (part bytes at len)) T)

-- all m entries are stored, if there is a place for each
pub record AfterStores (keys slots lens values : List ℕ) (n : ℕ) (ks ats ls bytes : List ℕ) (m r : ℕ) (keys' slots' lens' values' : List ℕ)
    : Type 0 where
  pub is : (T : Table) → Keeps keys slots lens values n T → Entered ks ats ls bytes m → ((i : ℕ) → i < m → get_or ls i 0 ≤ value_max)
      → (s : ℕ) → Size (storing m (λ i. get_or ks i 0) (λ i. part bytes (get_or ats i 0) (get_or ls i 0)) T) s → s ≤ length slots
      → Keeps keys' slots' lens' values' r (storing m (λ i. get_or ks i 0) (λ i. part bytes (get_or ats i 0) (get_or ls i 0)) T)
