-- The laws of tables: all that a caller may go by, of this crate and of `stores`, `removals`, `counts`, `ranges`, `entries` and
-- `audits`, which work on the same memory and know
-- how it is laid out. They speak of tables, of `Size` and of `Keeps` as a whole, never of keys in
-- rising order or of slots, so the table can be kept another way (found through hints, or by hashing) and no caller's proof changes.
--     put_same, put_other            what one entry set changes, and what not
--     removed_in, removed_out        the same for a range taken out
--     within_in, within_out          and for the entries of a range alone
--     replaced_at, -in, -out         and for a range replaced by entries with rising keys
--     size_unique, size_le           a table has one number of entries, and no more than a table with more keys
--     size_new, size_old             a new key is one more, an old one none
--     listed_one, listed_same        a list is that of one table, and a table has one list
--     made_listed, listed_made       rising entries make a table, and a table is made again from its list
--     keeps_size, keeps_room         the count that a caller keeps is the number of entries, and there is room for it
--     keeps_one, keeps_cong          memory keeps one table, and any that says the same of each key
--     keeps_short                    no value in it is too long
-- Assumes nothing.
use mathlib.Core.Path.{◌≡◌, refl, sym, ap, ◌∙◌}
use mathlib.Core.Bool.{true, false}
use mathlib.Core.List.{List}
use mathlib.Core.Option.{none, some, some-injective}
use Prim.Native.Nat.{ℕ, ◌*◌, ◌≤◌, ◌<◌}
use native.Mathlib.Omega.{arith}
use lib.ListN.{length, get_or, drop, length-take}
use Rattle.keys.specs.declared.Bound.{Bound}
use Rattle.keys.specs.Bound.{holds}
use Rattle.limits.specs.Limits.{value_max}
use Rattle.records.specs.Table.{Value, Table, removed, within, replaced, Size}
use Rattle.records.specs.Memory.{value_at, Keeps}
use Rattle.records.proofs.Tables.{dropped_true, dropped_false, only_true, only_false, listed_at, listed_cong}
use Rattle.records.proofs.Stores.{storing_other, storing_at}
pub use Rattle.records.proofs.Lists.{listed_one, listed_same, made_listed, listed_made}
pub use Rattle.records.proofs.Tables.{put_same, put_other, size_unique, size_le, size_new, size_old}

-- ---- tables

pub removed_in : (lo hi : Bound) (T : Table) (k : ℕ) → holds lo hi k ≡ true → removed lo hi T k ≡ none
removed_in lo hi T k e = dropped_true (holds lo hi) T k e

pub removed_out : (lo hi : Bound) (T : Table) (k : ℕ) → holds lo hi k ≡ false → removed lo hi T k ≡ T k
removed_out lo hi T k e = dropped_false (holds lo hi) T k e

pub within_in : (lo hi : Bound) (T : Table) (k : ℕ) → holds lo hi k ≡ true → within lo hi T k ≡ T k
within_in lo hi T k e = only_true (holds lo hi) T k e

pub within_out : (lo hi : Bound) (T : Table) (k : ℕ) → holds lo hi k ≡ false → within lo hi T k ≡ none
within_out lo hi T k e = only_false (holds lo hi) T k e

module _ (lo hi : Bound) (m : ℕ) (key : ℕ → ℕ) (val : ℕ → Value) (T : Table) where
  -- an entry of the list is stored, in the range or not
  pub replaced_at : ((i j : ℕ) → i < j → j < m → key i < key j) → (i : ℕ) → i < m → replaced lo hi m key val T (key i) ≡ some (val i)
  replaced_at r i q = storing_at m key val (removed lo hi T) r i q

  -- any other key of the range has none, and any other key outside it what it had
  pub replaced_in : (k : ℕ) → ((i : ℕ) → i < m → k ≡ key i → ⊥) → holds lo hi k ≡ true → replaced lo hi m key val T k ≡ none
  replaced_in k h e = storing_other m key val (removed lo hi T) k h ∙ removed_in lo hi T k e

  pub replaced_out : (k : ℕ) → ((i : ℕ) → i < m → k ≡ key i → ⊥) → holds lo hi k ≡ false → replaced lo hi m key val T k ≡ T k
  replaced_out k h e = storing_other m key val (removed lo hi T) k h ∙ removed_out lo hi T k e

-- ---- memory that keeps a table

module _ (keys slots lens values : List ℕ) (n : ℕ) (T : Table) (K : Keeps keys slots lens values n T) where
  pub keeps_size : Size T n
  keeps_size = ((λ i. get_or keys i 0), value_at slots lens values, K.listed)

  pub keeps_room : n ≤ length slots
  keeps_room = K.shape.count

  pub keeps_one : (T' : Table) → Keeps keys slots lens values n T' → (k : ℕ) → T k ≡ T' k
  keeps_one T' K' = listed_one n (λ i. get_or keys i 0) (value_at slots lens values) T T' K.listed K'.listed

  pub keeps_cong : (T' : Table) → ((k : ℕ) → T k ≡ T' k) → Keeps keys slots lens values n T'
  keeps_cong T' e = record {
    shape = K.shape;
    slotted = K.slotted;
    short = K.short;
    listed = listed_cong n (λ i. get_or keys i 0) (λ i. get_or keys i 0) (value_at slots lens values) (value_at slots lens values) T T'
        (λ i q. refl) (λ i q. refl) e K.listed;
  }

  pub keeps_short : (k : ℕ) (v : Value) → T k ≡ some v → length v ≤ value_max
  keeps_short k v e =
      let w = listed_at n (λ i. get_or keys i 0) (value_at slots lens values) T K.listed k v e in
      let s : value_at slots lens values w.0 ≡ v = some-injective _ _ (sym (K.listed.has w.0 w.1) ∙ ap T w.2 ∙ e) in
      omega
      (arith, ap length s, length-take (get_or lens (get_or slots w.0 0) 0) (drop (get_or slots w.0 0 * value_max) values), K.short w.0 w.1)
