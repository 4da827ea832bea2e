-- What the private functions answer. A caller of the crate need not read this.
-- Assumes nothing.
use Rattle.std.specs.Prelude.{◌≡◌, Bool, true, false, List, Result, Ok, Err, ℕ, ◌*◌, ◌<◌, length, get_or, set}
use Rattle.std.proofs.Math.Option.{some}
use Rattle.limits.specs.Limits.{value_max}
use Rattle.memory.specs.Bytes.{placed}
use Rattle.columns.specs.Column.{Splits}
use Rattle.records.specs.Table.{Value, Table, put}
use Rattle.records.specs.Memory.{Keeps}
use Rattle.records.specs.Inner.{Room}
use Rattle.stores.specs.declared.Refused.{Refused}
use Rattle.stores.specs.declared.Refused.TheVariants.{Full, TooLong}

-- the value stands in the slot of place i
pub record Written (slots lens values : List ℕ) (i : ℕ) (v : Value) (r : Bool) (lens' values' : List ℕ) : Type 0 where
  pub done : r ≡ true
      → Room slots lens values i × (lens' ≡ set lens (get_or slots i 0) (length v)) × (values' ≡ placed values (get_or slots i 0 * value_max) v)
  pub refused : r ≡ false → (lens' ≡ lens) × (values' ≡ values) × (Room slots lens values i → ⊥)

abbrev pub AddCases : Result ℕ Refused → (keys slots lens values : List ℕ) → (n p key : ℕ) → Value → (keys' slots' lens' values' : List ℕ) → Type 0
AddCases (Ok m) keys slots lens values n p key v keys' slots' lens' values' =
    (T : Table) → Keeps keys slots lens values n T → Splits keys n key p → ((x : ℕ) → x < n → get_or keys x 0 ≡ key → ⊥)
    → Keeps keys' slots' lens' values' m (put key (some v) T)
AddCases (Err Full) keys slots lens values n p key v keys' slots' lens' values' =
    (keys' ≡ keys) × (slots' ≡ slots) × (lens' ≡ lens) × (values' ≡ values)
    × ((T : Table) → Keeps keys slots lens values n T → n ≡ length slots)
AddCases (Err TooLong) keys slots lens values n p key v keys' slots' lens' values' = ⊥

pub record AfterAdd (keys slots lens values : List ℕ) (n p key : ℕ) (v : Value) (r : Result ℕ Refused) (keys' slots' lens' values' : List ℕ)
    : Type 0 where
  pub is : AddCases r keys slots lens values n p key v keys' slots' lens' values'

abbrev pub RenewCases : Result ℕ Refused → (slots lens values : List ℕ) → (n i : ℕ) → Value → (lens' values' : List ℕ) → Type 0
RenewCases (Ok m) slots lens values n i v lens' values' =
    (m ≡ n) × Room slots lens values i × (lens' ≡ set lens (get_or slots i 0) (length v)) × (values' ≡ placed values (get_or slots i 0 * value_max) v)
RenewCases (Err Full) slots lens values n i v lens' values' = (lens' ≡ lens) × (values' ≡ values) × (Room slots lens values i → ⊥)
RenewCases (Err TooLong) slots lens values n i v lens' values' = ⊥

pub record AfterRenew (slots lens values : List ℕ) (n i : ℕ) (v : Value) (r : Result ℕ Refused) (lens' values' : List ℕ) : Type 0 where
  pub is : RenewCases r slots lens values n i v lens' values'
