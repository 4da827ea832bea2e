-- A list of entries as it is handed in, in columns: keys, and where in the bytes each value stands. It is the form that `ranges::pick` leaves and
-- `entries::replace` takes.
-- Assumes nothing.
use Rattle.std.specs.Prelude.{◌≡◌, List, [], ◌∷◌, ℕ, zero, suc, ◌≤◌, length, get_or, Result, Ok, Err}
use Rattle.memory.specs.Bytes.{part}
use Rattle.strings.specs.Strings.{WellFormed}
use Rattle.format.specs.Format.{Entry}
use Rattle.message.specs.Message.{Datagram}
use Rattle.message.specs.Table.{Valid}
use Rattle.message.specs.Answers.{WriteCases}
use Rattle.message.specs.declared.Refused.{Refused}
use Rattle.message.specs.declared.Refused.TheVariants.{NoRoom, Invalid}

-- the m entries from place i of the columns on
abbrev pub entered : (ks ats ls bytes : List ℕ) → ℕ → ℕ → List Entry
entered ks ats ls bytes i zero = []
entered ks ats ls bytes i (suc m) =
    record { key = get_or ks i 0; value = part bytes (get_or ats i 0) (get_or ls i 0) } ∷ entered ks ats ls bytes (suc i) m

-- the columns have m places, and each value lies within the bytes
pub record Columns (ks ats ls bytes : List ℕ) (m : ℕ) : Type 0 where
  pub keys : m ≤ length ks
  pub values : WellFormed ats ls m (length bytes)

-- as every message is written or refused; columns that are no list are refused as Invalid too
abbrev pub DelegateCases : (ks ats ls bytes : List ℕ) → ℕ → Datagram → (d : List ℕ) → Result ℕ Refused → (d' : List ℕ) → Type 0
DelegateCases ks ats ls bytes m w d (Ok n) d' = Columns ks ats ls bytes m × WriteCases w d (Ok n) d'
DelegateCases ks ats ls bytes m w d (Err NoRoom) d' = Columns ks ats ls bytes m × WriteCases w d (Err NoRoom) d'
DelegateCases ks ats ls bytes m w d (Err Invalid) d' = (d' ≡ d) × (Columns ks ats ls bytes m → Valid w → ⊥)

pub record AfterDelegate (ks ats ls bytes : List ℕ) (m : ℕ) (w : Datagram) (d : List ℕ) (r : Result ℕ Refused) (d' : List ℕ) : Type 0 where
  pub is : DelegateCases ks ats ls bytes m w d r d'
