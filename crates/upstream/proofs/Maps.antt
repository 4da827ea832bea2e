-- The map and the table over lent memory, as their contracts have them, are upstream's map and table: what is proved of the ones is what upstream
-- promises of the others.
-- Assumes nothing.
use mathlib.Core.Path.{◌≡◌, refl, sym, ap, ◌∙◌}
use mathlib.Core.Bool.{Bool, true, false, cond}
use mathlib.Core.List.{List}
use mathlib.Core.Logic.{◌⊎◌, inl, inr, ⊎_elim}
use mathlib.Core.Option.{Option, some, some-injective}
use Prim.Native.Nat.{ℕ, zero, suc, ◌<◌}
use native.Mathlib.Omega.{arith}
use lib.Dec.{eqb}
use borrow.Author.Tests.{eqb-true, eqb-false, eq-eqb, ne_eqb}
use Rattle.keys.specs.declared.Bound.{Bound}
use Rattle.keys.specs.Bound.{holds}
use Rattle.message.specs.Message.{Address}
use Rattle.delegation.specs.Map.{updated, Keeps, Whole}
use Rattle.records.specs.Table.{Value, Table, put, removed, within, storing, replaced, Listed}
use Rattle.upstream.specs.Hosts.{Map, preferred, bulk_update, bulk_remove, extract, update, AllOf}

-- ---- the map. N names the owners

abbrev pub named : (ℕ → Address) → (ℕ → ℕ) → Map
named N f k = some (N (f k))

-- DelegationMap::set: the map after it is upstream's update
pub map_updated : (N : ℕ → Address) (lo hi : Bound) (v : ℕ) (f : ℕ → ℕ) → named N (updated lo hi v f) ≡ update (named N f) (record { lo = lo; hi = hi }) (N v)
map_updated N lo hi v f = λ i k. go k (holds lo hi k) i
  where
    go : (k : ℕ) (t : Bool) → ◌≡◌ {A = Option Address} (some (N (cond t v (f k)))) (cond t (some (N v)) (some (N (f k))))
    go k true = refl
    go k false = refl

-- delegate_for_key_range_is_host_impl: its answer is upstream's question
module _ (N : ℕ → Address) (lows owners : List ℕ) (n : ℕ) (lo hi : Bound) (v : ℕ) (r : Bool) (W : Whole lows owners n lo hi v r) (f : ℕ → ℕ)
    (K : Keeps lows owners n f) where
  pub map_whole : r ≡ true → AllOf (named N f) (record { lo = lo; hi = hi }) (N v)
  map_whole e k c = ap (λ (i : ℕ). some (N i)) (W.all f K e k c)

  -- names of owners are different
  pub map_not_whole : ((i j : ℕ) → N i ≡ N j → i ≡ j) → r ≡ false → AllOf (named N f) (record { lo = lo; hi = hi }) (N v) → ⊥
  map_not_whole distinct e A = let w = W.other f K e in w.3 (distinct (f w.0) v (some-injective (N (f w.0)) (N v) (A w.0 w.2)))

-- ---- the table

-- HashMap::insert and remove
pub table_put : (k : ℕ) (v : Option Value) (T : Table) → (put k v T k ≡ v) × ((j : ℕ) → (j ≡ k → ⊥) → put k v T j ≡ T j)
table_put k v T = (ap (λ (t : Bool). cond t v (T k)) (eq-eqb k k refl), λ j n. ap (λ (t : Bool). cond t v (T j)) (ne_eqb j k n))

-- bulk_remove and filter
pub table_removed : (lo hi : Bound) (T : Table) → removed lo hi T ≡ bulk_remove T (record { lo = lo; hi = hi })
table_removed lo hi T = refl

pub table_within : (lo hi : Bound) (T : Table) → within lo hi T ≡ extract T (record { lo = lo; hi = hi })
table_within lo hi T = refl

-- which of the first n entries has the key
found : (key : ℕ → ℕ) (k n : ℕ) → ((i : ℕ) × (i < n) × (key i ≡ k)) ⊎ ((i : ℕ) → i < n → key i ≡ k → ⊥)
found key k zero = inr (λ i h e. omega (arith, h))
found key k (suc n) = ⊎_elim (λ r. let h = r.1 in inl (r.0, omega (arith, h), r.2)) (λ r. go (eqb (key n) k) refl r) (found key k n)
  where
    go : (t : Bool) → eqb (key n) k ≡ t → ((i : ℕ) → i < n → key i ≡ k → ⊥) → ((i : ℕ) × (i < suc n) × (key i ≡ k)) ⊎ ((i : ℕ) → i < suc n → key i ≡ k → ⊥)
    go true e f = inl (n, omega arith, eqb-true (key n) k e)
    go false e f = inr (λ i h q. last i h q (eqb i n) refl)
      where
        last : (i : ℕ) → i < suc n → key i ≡ k → (t : Bool) → eqb i n ≡ t → ⊥
        last i h q true w = eqb-false (key n) k e (ap key (sym (eqb-true i n w)) ∙ q)
        last i h q false w = let d = eqb-false i n w in f i (omega (arith, h, d)) q

module _ (key : ℕ → ℕ) (val : ℕ → Value) (T : Table) (k : ℕ) where
  -- entries with other keys leave it alone
  stored_else : (m : ℕ) → ((i : ℕ) → i < m → key i ≡ k → ⊥) → storing m key val T k ≡ T k
  stored_else zero n = refl
  stored_else (suc m) n =
      ap (λ (t : Bool). cond t (some (val m)) (storing m key val T k)) (ne_eqb k (key m) (λ e. n m (omega arith) (sym e)))
      ∙ stored_else m (λ i h e. n i (omega (arith, h)) e)

  stored_at : (m i : ℕ) → i < m → key i ≡ k → ((j : ℕ) → i < j → j < m → key j ≡ k → ⊥) → storing m key val T k ≡ some (val i)
  stored_at zero i h e later = absurd (omega (arith, h))
  stored_at (suc m) i h e later = go (eqb i m) refl (stored_at m i)
    where
      go : (t : Bool) → eqb i m ≡ t → (i < m → key i ≡ k → ((j : ℕ) → i < j → j < m → key j ≡ k → ⊥) → storing m key val T k ≡ some (val i))
          → cond (eqb k (key m)) (some (val m)) (storing m key val T k) ≡ some (val i)
      go true w rest =
          let q : i ≡ m = eqb-true i m w in
          ap (λ (t : Bool). cond t (some (val m)) (storing m key val T k)) (eq-eqb k (key m) (sym e ∙ ap key q)) ∙ ap (λ (j : ℕ). some (val j)) (sym q)
      go false w rest =
          let d = eqb-false i m w in
          let less : i < m = omega (arith, h, d) in
          ap (λ (t : Bool). cond t (some (val m)) (storing m key val T k)) (ne_eqb k (key m) (λ q. later m less (omega arith) (sym q)))
          ∙ rest less e (λ j p q. later j p (omega (arith, q)))

-- bulk_update: the table after it is upstream's
pub table_replaced : (lo hi : Bound) (m : ℕ) (key : ℕ → ℕ) (val : ℕ → Value) (T U : Table) → Listed m key val U
    → (k : ℕ) → replaced lo hi m key val T k ≡ bulk_update T (record { lo = lo; hi = hi }) U k
table_replaced lo hi m key val T U L k = ⊎_elim there absent (found key k m)
  where
    there : ((i : ℕ) × (i < m) × (key i ≡ k)) → storing m key val (removed lo hi T) k ≡ preferred (U k) (removed lo hi T k)
    there r =
        stored_at key val (removed lo hi T) k m r.0 r.1 r.2
        (λ j p q e. let u = L.rising r.0 j p q in let w = r.2 in omega (arith, u, w, e))
        ∙ ap (λ (v : Option Value). preferred v (removed lo hi T k)) (sym (ap U (sym r.2) ∙ L.has r.0 r.1))

    absent : ((i : ℕ) → i < m → key i ≡ k → ⊥) → storing m key val (removed lo hi T) k ≡ preferred (U k) (removed lo hi T k)
    absent n =
        stored_else key val (removed lo hi T) k m n ∙ ap (λ (v : Option Value). preferred v (removed lo hi T k)) (sym (L.none_else k n))
