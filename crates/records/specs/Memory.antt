-- How lent memory keeps a table. `keys` has the keys in rising order, the first n of them count. `slots` is a permutation of the places for
-- values: the value of the entry at place i stands in slot `slots[i]`, and the slots past n are free. Slot s has its value's length at
-- `lens[s]` and its bytes from `values[s * value_max]` on. So keys and slot numbers are moved when the table changes, values never.
-- Assumes nothing.
use Rattle.std.specs.Prelude.{◌≡◌, List, ℕ, ◌*◌, ◌≤◌, ◌<◌, length, get_or}
use Rattle.limits.specs.Limits.{value_max}
use Rattle.memory.specs.Bytes.{part}
use Rattle.records.specs.Table.{Value, Table, Listed}

-- the value in slot s
abbrev pub in_slot : List ℕ → List ℕ → ℕ → Value
in_slot lens values s = part values (s * value_max) (get_or lens s 0)

-- the value at place i
abbrev pub value_at : List ℕ → List ℕ → List ℕ → ℕ → Value
value_at slots lens values i = in_slot lens values (get_or slots i 0)

-- slices of these lengths fit together, with n entries in use: there are as many places as slots, each with its key, its length and its bytes
pub record Shape (keys slots lens values n : ℕ) : Type 0 where
  pub count : n ≤ slots
  pub fits_keys : slots ≤ keys
  pub fits_lens : slots ≤ lens
  pub fits_values : slots * value_max ≤ values

-- the slots are a permutation of the places
pub record Slots (slots : List ℕ) : Type 0 where
  pub below : (i : ℕ) → i < length slots → get_or slots i 0 < length slots
  pub apart : (i j : ℕ) → i < length slots → j < length slots → get_or slots i 0 ≡ get_or slots j 0 → i ≡ j

-- Memory keeps the table T in n entries
pub record Keeps (keys slots lens values : List ℕ) (n : ℕ) (T : Table) : Type 0 where
  pub shape : Shape (length keys) (length slots) (length lens) (length values) n
  pub slotted : Slots slots
  pub short : (i : ℕ) → i < n → get_or lens (get_or slots i 0) 0 ≤ value_max
  pub listed : Listed n (λ i. get_or keys i 0) (value_at slots lens values) T
