-- A host's records: the list of its entries, keys rising, so that a range can be counted and picked out. `look` is the partial map that it
-- stands for.
-- Assumes nothing.
use Rattle.std.specs.Prelude.{Bool, cond, not, List, [], ◌∷◌, ℕ, eqb, ltb}
use Rattle.std.proofs.Math.Option.{Option, none, some}
use Rattle.keys.specs.declared.Bound.{Bound}
use Rattle.keys.specs.Bound.{holds}
use Rattle.format.specs.Format.{Entry}

abbrev pub Value : Type 0
Value = List ℕ

-- what the key holds
abbrev pub look : ℕ → List Entry → Option Value
look k [] = none
look k (e ∷ l) = cond (eqb k e.key) (some e.value) (look k l)

-- the entries whose keys pass the test
abbrev pub kept : (ℕ → Bool) → List Entry → List Entry
kept p [] = []
kept p (e ∷ l) = cond (p e.key) (e ∷ kept p l) (kept p l)

-- the key's entry taken out
abbrev pub without : ℕ → List Entry → List Entry
without k = kept (λ j. not (eqb j k))

-- the entry in its place among the others, which do not have its key
abbrev pub filed : Entry → List Entry → List Entry
filed x [] = x ∷ []
filed x (e ∷ l) = cond (ltb x.key e.key) (x ∷ e ∷ l) (e ∷ filed x l)

-- the key set to a value, or taken out with none
abbrev pub setting : ℕ → Option Value → List Entry → List Entry
setting k none l = without k l
setting k (some v) l = filed (record { key = k; value = v }) (without k l)

-- the entries in the range [lo, hi), and those outside
abbrev pub in_range : Bound → Bound → List Entry → List Entry
in_range lo hi = kept (holds lo hi)

abbrev pub outside : Bound → Bound → List Entry → List Entry
outside lo hi = kept (λ j. not (holds lo hi j))

-- entries stored one after the other
abbrev pub storing : List Entry → List Entry → List Entry
storing [] l = l
storing (e ∷ more) l = storing more (setting e.key (some e.value) l)

-- In the range exactly the entries that were sent. Entries outside it are stored all the same, as document 01, section 5, has it today (change
-- request C4)
abbrev pub replacing : Bound → Bound → List Entry → List Entry → List Entry
replacing lo hi more l = storing more (outside lo hi l)
