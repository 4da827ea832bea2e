-- What a table is: a partial map from key to value, how it changes, and how many entries it has (document 01, sections 2, 5 and 6).
-- Nothing here knows how memory holds a table.
-- Assumes nothing.
use Rattle.std.specs.Prelude.{◌≡◌, Bool, cond, List, ℕ, zero, suc, ◌<◌, eqb}
use Rattle.std.proofs.Math.Option.{Option, none, some}
use Rattle.keys.specs.declared.Bound.{Bound}
use Rattle.keys.specs.Bound.{holds}

-- a value is a byte string
abbrev pub Value : Type 0
Value = List ℕ

abbrev pub Table : Type 0
Table = ℕ → Option Value

abbrev pub empty : Table
empty k = none

-- the key's entry set, or taken out with `none`
abbrev pub put : ℕ → Option Value → Table → Table
put key v T k = cond (eqb k key) v (T k)

-- what the test holds of is taken out, or alone is left
abbrev pub dropped : (ℕ → Bool) → Table → Table
dropped p T k = cond (p k) none (T k)

abbrev pub only : (ℕ → Bool) → Table → Table
only p T k = cond (p k) (T k) none

-- the range [lo, hi) taken out; the entries in the range alone
abbrev pub removed : Bound → Bound → Table → Table
removed lo hi = dropped (holds lo hi)

abbrev pub within : Bound → Bound → Table → Table
within lo hi = only (holds lo hi)

-- m entries stored one after the other; entry i is (key i, val i)
abbrev pub storing : ℕ → (ℕ → ℕ) → (ℕ → Value) → Table → Table
storing zero key val T = T
storing (suc m) key val T = put (key m) (some (val m)) (storing m key val T)

-- The range is replaced by the m entries: what was in it is taken out, then they are stored. An entry outside the range is stored all the
-- same, as document 01, section 5, has it today
abbrev pub replaced : Bound → Bound → ℕ → (ℕ → ℕ) → (ℕ → Value) → Table → Table
replaced lo hi m key val T = storing m key val (removed lo hi T)

-- the table's entries in rising order of keys are the n entries (key i, val i): each of them is there, and there is no other
pub record Listed (n : ℕ) (key : ℕ → ℕ) (val : ℕ → Value) (T : Table) : Type 0 where
  pub rising : (i j : ℕ) → i < j → j < n → key i < key j
  pub has : (i : ℕ) → i < n → T (key i) ≡ some (val i)
  pub none_else : (k : ℕ) → ((i : ℕ) → i < n → key i ≡ k → ⊥) → T k ≡ none

-- the table has m entries. It never has another number of them (law `size_unique`)
abbrev pub Size : Table → ℕ → Type 0
Size T m = (key : ℕ → ℕ) × (val : ℕ → Value) × Listed m key val T
