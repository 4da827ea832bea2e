-- What picking out a range answers.
-- Assumes nothing.
use Rattle.std.specs.Prelude.{◌≡◌, List, Result, Ok, Err, ℕ, min, ◌+◌, ◌≤◌, ◌<◌, length, get_or}
use Rattle.keys.specs.declared.Bound.{Bound}
use Rattle.records.specs.Table.{Table, within, Listed, Size}
use Rattle.memory.specs.Bytes.{part}
use Rattle.records.specs.Memory.{Keeps}
use Rattle.limits.specs.declared.NoRoom.{NoRoom}

-- the range's entries in rising order, each by its key and the place and length of its value, or there are more than what is lent for them
abbrev pub PickCases : Result ℕ NoRoom → (keys slots lens values : List ℕ) → ℕ → Bound → Bound → (ks ats ls ks' ats' ls' : List ℕ) → Type 0
PickCases (Ok m) keys slots lens values n lo hi ks ats ls ks' ats' ls' =
    (m ≤ min (length ks) (min (length ats) (length ls)))
    × ((i : ℕ) → i < m → get_or ats' i 0 + get_or ls' i 0 ≤ length values)
    × ((T : Table) → Keeps keys slots lens values n T
    → Listed m (λ i. get_or ks' i 0) (λ i. part values (get_or ats' i 0) (get_or ls' i 0)) (within lo hi T))
PickCases (Err e) keys slots lens values n lo hi ks ats ls ks' ats' ls' =
    (ks' ≡ ks) × (ats' ≡ ats) × (ls' ≡ ls)
    × ((T : Table) → Keeps keys slots lens values n T
    → (m : ℕ) × Size (within lo hi T) m × (min (length ks) (min (length ats) (length ls)) < m))

pub record AfterPick (keys slots lens values : List ℕ) (n : ℕ) (lo hi : Bound) (ks ats ls : List ℕ) (r : Result ℕ NoRoom) (ks' ats' ls' : List ℕ)
    : Type 0 where
  pub is : PickCases r keys slots lens values n lo hi ks ats ls ks' ats' ls'
