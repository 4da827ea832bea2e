-- What replacing a range by a list of entries answers.
-- Assumes nothing.
use Rattle.std.specs.Prelude.{◌≡◌, List, Result, Ok, Err, ℕ, ◌<◌, length, get_or}
use Rattle.keys.specs.declared.Bound.{Bound}
use Rattle.limits.specs.Limits.{value_max}
use Rattle.records.specs.Table.{Value, Table, replaced, Size}
use Rattle.memory.specs.Bytes.{part}
use Rattle.records.specs.Memory.{Keeps}
use Rattle.entered.specs.Entered.{Entered}
use Rattle.entered.specs.declared.Refused.{Refused as Look}
use Rattle.entered.specs.declared.Refused.TheVariants.{TooLong as Long, Malformed as Bad}
use Rattle.entries.specs.declared.Refused.{Refused}
use Rattle.entries.specs.declared.Refused.TheVariants.{Full, TooLong, Malformed}

-- what is wrong with the list, as a replacement says it
abbrev pub refusal_of : Look → Refused
refusal_of Long = TooLong
refusal_of Bad = Malformed

-- the range is replaced by the entries, or the list is not well formed, has a value that is too long, or does not fit: then nothing has changed
abbrev pub ReplaceCases : Result ℕ Refused → (keys slots lens values : List ℕ) → ℕ → Bound → Bound → (ks ats ls bytes : List ℕ) → ℕ
    → (keys' slots' lens' values' : List ℕ) → Type 0
ReplaceCases (Ok r) keys slots lens values n lo hi ks ats ls bytes m keys' slots' lens' values' =
    (T : Table) → Keeps keys slots lens values n T
    → Keeps keys' slots' lens' values' r (replaced lo hi m (λ i. get_or ks i 0) (λ i. part bytes (get_or ats i 0) (get_or ls i 0)) T)
ReplaceCases (Err Full) keys slots lens values n lo hi ks ats ls bytes m keys' slots' lens' values' =
    (keys' ≡ keys) × (slots' ≡ slots) × (lens' ≡ lens) × (values' ≡ values)
    × ((T : Table) → Keeps keys slots lens values n T → (val : ℕ → Value)
    → (r : ℕ) × Size (replaced lo hi m (λ i. get_or ks i 0) val T) r × (length slots < r))
ReplaceCases (Err TooLong) keys slots lens values n lo hi ks ats ls bytes m keys' slots' lens' values' =
    (keys' ≡ keys) × (slots' ≡ slots) × (lens' ≡ lens) × (values' ≡ values)
    × ((i : ℕ) × (i < m) × (value_max < get_or ls i 0))
ReplaceCases (Err Malformed) keys slots lens values n lo hi ks ats ls bytes m keys' slots' lens' values' =
    (keys' ≡ keys) × (slots' ≡ slots) × (lens' ≡ lens) × (values' ≡ values) × (Entered ks ats ls bytes m → ⊥)

pub record AfterReplace (keys slots lens values : List ℕ) (n : ℕ) (lo hi : Bound) (ks ats ls bytes : List ℕ) (m : ℕ) (r : Result ℕ Refused)
    (keys' slots' lens' values' : List ℕ) : Type 0 where
  pub is : ReplaceCases r keys slots lens values n lo hi ks ats ls bytes m keys' slots' lens' values'
