-- What setting a key's value answers.
-- Assumes nothing.
use Rattle.std.specs.Prelude.{◌≡◌, List, Result, Ok, Err, ℕ, ◌<◌, length}
use Rattle.std.proofs.Math.Option.{none, some}
use Rattle.limits.specs.Limits.{value_max}
use Rattle.records.specs.Table.{Value, Table, put}
use Rattle.records.specs.Memory.{Keeps}
use Rattle.stores.specs.declared.Refused.{Refused}
use Rattle.stores.specs.declared.Refused.TheVariants.{Full, TooLong}

-- the entry is set, or the value is too long, or the table is full and the key is new: then nothing has changed
abbrev pub SetCases : Result ℕ Refused → (keys slots lens values : List ℕ) → (n key : ℕ) → Value → (keys' slots' lens' values' : List ℕ) → Type 0
SetCases (Ok m) keys slots lens values n key v keys' slots' lens' values' =
    (T : Table) → Keeps keys slots lens values n T → Keeps keys' slots' lens' values' m (put key (some v) T)
SetCases (Err Full) keys slots lens values n key v keys' slots' lens' values' =
    (keys' ≡ keys) × (slots' ≡ slots) × (lens' ≡ lens) × (values' ≡ values)
    × ((T : Table) → Keeps keys slots lens values n T → (T key ≡ none) × (n ≡ length slots))
SetCases (Err TooLong) keys slots lens values n key v keys' slots' lens' values' =
    (keys' ≡ keys) × (slots' ≡ slots) × (lens' ≡ lens) × (values' ≡ values) × (value_max < length v)

pub record AfterSet (keys slots lens values : List ℕ) (n key : ℕ) (v : Value) (r : Result ℕ Refused) (keys' slots' lens' values' : List ℕ)
    : Type 0 where
  pub is : SetCases r keys slots lens values n key v keys' slots' lens' values'
