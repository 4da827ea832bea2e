-- A table and the list of its entries in rising order: each makes the other, and a table has one list. Upstream takes this on trust (hashmap_t,
-- the axioms lemma_to_vec, lemma_to_vec_view and lemma_from_vec).
-- Assumes nothing.
use mathlib.Core.Path.{◌≡◌, sym, ap, ◌∙◌}
use mathlib.Core.Logic.{⊎_elim}
use mathlib.Core.Option.{some-injective}
use Prim.Native.Nat.{ℕ, zero, suc, ◌≤◌, ◌<◌}
use native.Mathlib.Omega.{arith}
use Rattle.columns.proofs.Cases.{lt_or_ge}
use Rattle.records.specs.Table.{Value, Table, empty, storing, Listed}
use Rattle.records.proofs.Tables.{find_place, listed_at, size_unique}
use Rattle.records.proofs.Stores.{storing_other, storing_at}

-- a list is that of one table
pub listed_one : (n : ℕ) (key : ℕ → ℕ) (val : ℕ → Value) (T T' : Table) → Listed n key val T → Listed n key val T' → (k : ℕ) → T k ≡ T' k
listed_one n key val T T' L L' k =
    ⊎_elim
    (λ w. ap T (sym w.2) ∙ L.has w.0 w.1 ∙ sym (L'.has w.0 w.1) ∙ ap T' w.2)
    (λ w. L.none_else k w ∙ sym (L'.none_else k w))
    (find_place n key k)

-- rising entries are the list of the table that they make
pub made_listed : (m : ℕ) (key : ℕ → ℕ) (val : ℕ → Value) → ((i j : ℕ) → i < j → j < m → key i < key j) → Listed m key val (storing m key val empty)
made_listed m key val r = record {
  rising = r;
  has = λ i q. storing_at m key val empty r i q;
  none_else = λ k h. storing_other m key val empty k (λ i q e. h i q (sym e));
}

-- a table is made again from its list
pub listed_made : (m : ℕ) (key : ℕ → ℕ) (val : ℕ → Value) (T : Table) → Listed m key val T → (k : ℕ) → storing m key val empty k ≡ T k
listed_made m key val T L = listed_one m key val (storing m key val empty) T (made_listed m key val L.rising) L

-- the first key in which two lists of one table differ is not smaller in the first of them
no_smaller : (n m : ℕ) (key key' : ℕ → ℕ) (val val' : ℕ → Value) (T : Table) → Listed n key val T → Listed m key' val' T → (i : ℕ) → i < n
    → ((j : ℕ) → j < i → key j ≡ key' j) → i < m → key i < key' i → ⊥
no_smaller n m key key' val val' T L L' i p same q w =
    let u = listed_at m key' val' T L' (key i) (val i) (L.has i p) in
    ⊎_elim
    (λ h. omega (arith, L.rising u.0 i h p, same u.0 h, u.2))
    (λ h. ⊎_elim
    (λ g. omega (arith, L'.rising i u.0 g u.1, u.2))
    (λ g. let e : u.0 ≡ i = omega arith in omega (arith, ap key' e, u.2))
    (lt_or_ge i u.0))
    (lt_or_ge u.0 i)

-- a table has one list: as many entries, and each the same
pub listed_same : (n m : ℕ) (key key' : ℕ → ℕ) (val val' : ℕ → Value) (T : Table) → Listed n key val T → Listed m key' val' T
    → (n ≡ m) × ((i : ℕ) → i < n → (key i ≡ key' i) × (val i ≡ val' i))
listed_same n m key key' val val' T L L' = (long, λ i p. (at i i p (omega arith), value i p (at i i p (omega arith))))
  where
    long : n ≡ m
    long = size_unique n m T (key, val, L) (key', val', L')

    -- by induction on a bound above the place
    at : (b i : ℕ) → i < n → i ≤ b → key i ≡ key' i
    at b i p h = step b i p h
      where
        pick : (i : ℕ) → i < n → ((j : ℕ) → j < i → key j ≡ key' j) → key i ≡ key' i
        pick i p same =
            ⊎_elim
            (λ w. absurd (no_smaller n m key key' val val' T L L' i p same (omega (arith, long)) w))
            (λ w. ⊎_elim
            (λ u. absurd (no_smaller m n key' key val' val T L' L i (omega (arith, long)) (λ j q. sym (same j q)) p u))
            (λ u. omega arith)
            (lt_or_ge (key' i) (key i)))
            (lt_or_ge (key i) (key' i))

        step : (b i : ℕ) → i < n → i ≤ b → key i ≡ key' i
        step zero i p h = pick i p (λ j q. absurd (omega arith))
        step (suc b) i p h = pick i p (λ j q. step b j (omega arith) (omega arith))

    value : (i : ℕ) → i < n → key i ≡ key' i → val i ≡ val' i
    value i p e = some-injective _ _ (sym (L.has i p) ∙ ap T e ∙ L'.has i (omega (arith, long)))
