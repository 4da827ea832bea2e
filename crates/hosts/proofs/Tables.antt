-- The table as crate `records` has it, a function, and as the definition has it, a list with rising keys: each change of the one is that change of
-- the other, and both have as many entries. In all of it the table T says of each key what the list l says, and l's keys rise.
-- Assumes nothing.
use mathlib.Core.Path.{◌≡◌, refl, sym, ap, ap₂, ◌∙◌, subst}
use mathlib.Core.Logic.{⊎_elim}
use mathlib.Core.Bool.{Bool, true, false, cond}
use mathlib.Core.List.{List, [], ◌∷◌}
use mathlib.Core.Option.{Option, none, some}
use Prim.Native.Nat.{ℕ, zero, suc, ◌+◌, ◌≤◌, ◌<◌}
use native.Mathlib.Omega.{arith}
use lib.ListN.{length}
use lib.Dec.{eqb}
use borrow.Author.Tests.{eq-eqb, ne_eqb}
use Rattle.keys.specs.declared.Bound.{Bound}
use Rattle.keys.specs.Bound.{holds}
use Rattle.format.specs.Format.{Entry, Above}
use Rattle.records.specs.Table.{Value, Table, put, removed, within, replaced, Listed, Size}
use Rattle.records.specs.Memory.{Keeps}
use Rattle.records.proofs.Laws.{size_unique, listed_same, keeps_size, replaced_at, replaced_in, replaced_out}
use Rattle.records.proofs.Tables.{find_place, listed_cong}
use Rattle.protocol.specs.Records.{look, setting, in_range, outside, replacing}
use Rattle.protocol.proofs.Entries.{above_kept, look_setting, look_in_range, look_outside, above_replacing, or_else, look_replacing}

-- ---- a list by its places

abbrev pub key_at : List Entry → ℕ → ℕ
key_at [] i = 0
key_at (e ∷ l) zero = e.key
key_at (e ∷ l) (suc i) = key_at l i

abbrev pub value_at : List Entry → ℕ → Value
value_at [] i = []
value_at (e ∷ l) zero = e.value
value_at (e ∷ l) (suc i) = value_at l i

-- the m entries from place i on
abbrev pub made : (ℕ → ℕ) → (ℕ → Value) → ℕ → ℕ → List Entry
made key val i zero = []
made key val i (suc m) = record { key = key i; value = val i } ∷ made key val (suc i) m

pub length_made : (key : ℕ → ℕ) (val : ℕ → Value) (i m : ℕ) → length (made key val i m) ≡ m
length_made key val i zero = refl
length_made key val i (suc m) = ap suc (length_made key val (suc i) m)

-- a list is made of what stands at its places
pub made_is : (key : ℕ → ℕ) (val : ℕ → Value) (i : ℕ) (l : List Entry) → ((j : ℕ) → j < length l → key (i + j) ≡ key_at l j)
    → ((j : ℕ) → j < length l → val (i + j) ≡ value_at l j) → made key val i (length l) ≡ l
made_is key val i [] ek ev = refl
made_is key val i (e ∷ l) ek ev =
    let z : i + 0 ≡ i = omega arith in
    let k : key i ≡ e.key = ap key (sym z) ∙ ek 0 (omega arith) in
    let v : val i ≡ e.value = ap val (sym z) ∙ ev 0 (omega arith) in
    let s : (j : ℕ) → suc i + j ≡ i + suc j = λ j. omega arith in
    ap₂ (λ (x : Entry) (t : List Entry). x ∷ t)
    (ap₂ (λ (a : ℕ) (b : Value). record { key = a; value = b }) k v)
    (made_is key val (suc i) l
    (λ j q. ap key (s j) ∙ ek (suc j) (omega arith))
    (λ j q. ap val (s j) ∙ ev (suc j) (omega arith)))

-- what stands at a place of a list that was made
key_made : (key : ℕ → ℕ) (val : ℕ → Value) (i m j : ℕ) → j < m → key_at (made key val i m) j ≡ key (i + j)
key_made key val i zero j q = absurd (omega arith)
key_made key val i (suc m) zero q = let z : i ≡ i + 0 = omega arith in ap key z
key_made key val i (suc m) (suc j) q = let z : suc i + j ≡ i + suc j = omega arith in key_made key val (suc i) m j (omega arith) ∙ ap key z

value_made : (key : ℕ → ℕ) (val : ℕ → Value) (i m j : ℕ) → j < m → value_at (made key val i m) j ≡ val (i + j)
value_made key val i zero j q = absurd (omega arith)
value_made key val i (suc m) zero q = let z : i ≡ i + 0 = omega arith in ap val z
value_made key val i (suc m) (suc j) q = let z : suc i + j ≡ i + suc j = omega arith in value_made key val (suc i) m j (omega arith) ∙ ap val z

-- ---- a list with rising keys lists the table that it stands for

key_above : (low : ℕ) (l : List Entry) → Above low l → (i : ℕ) → i < length l → low ≤ key_at l i
key_above low [] a i q = absurd (omega arith)
key_above low (e ∷ l) a zero q = a.0
key_above low (e ∷ l) a (suc i) q = omega (arith, a.0, key_above (suc e.key) l a.1 i (omega arith))

keys_rise : (low : ℕ) (l : List Entry) → Above low l → (i j : ℕ) → i < j → j < length l → key_at l i < key_at l j
keys_rise low [] a i j p q = absurd (omega arith)
keys_rise low (e ∷ l) a i zero p q = absurd (omega arith)
keys_rise low (e ∷ l) a zero (suc j) p q = key_above (suc e.key) l a.1 j (omega arith)
keys_rise low (e ∷ l) a (suc i) (suc j) p q = keys_rise (suc e.key) l a.1 i j (omega arith) (omega arith)

look_at : (low : ℕ) (l : List Entry) → Above low l → (i : ℕ) → i < length l → look (key_at l i) l ≡ some (value_at l i)
look_at low [] a i q = absurd (omega arith)
look_at low (e ∷ l) a zero q = rw (eq-eqb e.key e.key refl) refl
look_at low (e ∷ l) a (suc i) q =
    let b = key_above (suc e.key) l a.1 i (omega arith) in
    let n : eqb (key_at l i) e.key ≡ false = ne_eqb (key_at l i) e.key (λ z. omega (arith, b)) in
    rw n (look_at (suc e.key) l a.1 i (omega arith))

look_none : (l : List Entry) (k : ℕ) → ((i : ℕ) → i < length l → key_at l i ≡ k → ⊥) → look k l ≡ none
look_none [] k h = refl
look_none (e ∷ l) k h =
    let n : eqb k e.key ≡ false = ne_eqb k e.key (λ z. h 0 (omega arith) (sym z)) in
    rw n (look_none l k (λ i q. h (suc i) (omega arith)))

pub listed_list : (l : List Entry) → Above 0 l → Listed (length l) (key_at l) (value_at l) (λ k. look k l)
listed_list l a = record { rising = keys_rise 0 l a; has = look_at 0 l a; none_else = look_none l }

-- .. also if it was made of m entries
pub listed_of : (es : List Entry) → Above 0 es → (m : ℕ) (key : ℕ → ℕ) (val : ℕ → Value) → made key val 0 m ≡ es → Listed m key val (λ k. look k es)
listed_of es a m key val e =
    let n : length es ≡ m = ap length (sym e) ∙ length_made key val 0 m in
    listed_cong m (key_at es) key (value_at es) val (λ k. look k es) (λ k. look k es)
    (λ i q. let z : 0 + i ≡ i = omega arith in ap (λ (l : List Entry). key_at l i) (sym e) ∙ key_made key val 0 m i q ∙ ap key z)
    (λ i q. let z : 0 + i ≡ i = omega arith in ap (λ (l : List Entry). value_at l i) (sym e) ∙ value_made key val 0 m i q ∙ ap val z)
    (λ k. refl)
    (subst (λ (x : ℕ). Listed x (key_at es) (value_at es) (λ k. look k es)) n (listed_list es a))

-- ---- the table T is the list l

module _ (T : Table) (l : List Entry) (e : (k : ℕ) → T k ≡ look k l) (a : Above 0 l) where
  pub list_listed : Listed (length l) (key_at l) (value_at l) T
  list_listed =
      listed_cong (length l) (key_at l) (key_at l) (value_at l) (value_at l) (λ k. look k l) T (λ i q. refl) (λ i q. refl) (λ k. sym (e k)) (listed_list l a)

  pub size_list : Size T (length l)
  size_list = (key_at l, value_at l, list_listed)

  pub size_is : (r : ℕ) → Size T r → r ≡ length l
  size_is r s = size_unique r (length l) T s size_list

  -- a list of the table is that list
  pub listed_made : (m : ℕ) (key : ℕ → ℕ) (val : ℕ → Value) → Listed m key val T → made key val 0 m ≡ l
  listed_made m key val L =
      let s = listed_same m (length l) key (key_at l) val (value_at l) T L list_listed in
      ap (made key val 0) s.0
      ∙ made_is key val 0 l
      (λ j q. let z : 0 + j ≡ j = omega arith in ap key z ∙ (s.1 j (omega (arith, s.0))).0)
      (λ j q. let z : 0 + j ≡ j = omega arith in ap val z ∙ (s.1 j (omega (arith, s.0))).1)

  -- the count that memory keeps is the list's length
  pub keeps_length : (keys slots lens values : List ℕ) (n : ℕ) → Keeps keys slots lens values n T → n ≡ length l
  keeps_length keys slots lens values n K = size_is n (keeps_size keys slots lens values n T K)

-- ---- each change of it is the list's

module _ (T : Table) (l : List Entry) (e : (k : ℕ) → T k ≡ look k l) (a : Above 0 l) where
  -- one entry set
  pub put_is : (key : ℕ) (v : Option Value) (k : ℕ) → put key v T k ≡ look k (setting key v l)
  put_is key v k = ap (λ (w : Option Value). cond (eqb k key) v w) (e k) ∙ sym (look_setting key v l a k)

  -- a range taken out
  pub removed_is : (lo hi : Bound) (k : ℕ) → removed lo hi T k ≡ look k (outside lo hi l)
  removed_is lo hi k = ap (λ (w : Option Value). cond (holds lo hi k) none w) (e k) ∙ sym (look_outside lo hi k l)

  -- a range alone
  pub within_is : (lo hi : Bound) (k : ℕ) → within lo hi T k ≡ look k (in_range lo hi l)
  within_is lo hi k = ap (λ (w : Option Value). cond (holds lo hi k) w none) (e k) ∙ sym (look_in_range lo hi k l)

  pub size_within : (lo hi : Bound) (r : ℕ) → Size (within lo hi T) r → r ≡ length (in_range lo hi l)
  size_within lo hi = size_is (within lo hi T) (in_range lo hi l) (within_is lo hi) (above_kept (holds lo hi) 0 l a)

  -- .. and its list
  pub made_within : (lo hi : Bound) (m : ℕ) (key : ℕ → ℕ) (val : ℕ → Value) → Listed m key val (within lo hi T) → made key val 0 m ≡ in_range lo hi l
  made_within lo hi = listed_made (within lo hi T) (in_range lo hi l) (within_is lo hi) (above_kept (holds lo hi) 0 l a)

  -- a range replaced by the m entries of the list es
  module _ (lo hi : Bound) (es : List Entry) (b : Above 0 es) (m : ℕ) (key : ℕ → ℕ) (val : ℕ → Value) (L : Listed m key val (λ k. look k es)) where
    pub replaced_is : (k : ℕ) → replaced lo hi m key val T k ≡ look k (replacing lo hi es l)
    replaced_is k = ⊎_elim there other (find_place m key k) ∙ sym (look_replacing lo hi es l b a k)
      where
        there : (i : ℕ) × (i < m) × (key i ≡ k) → replaced lo hi m key val T k ≡ or_else (look k es) (cond (holds lo hi k) none (look k l))
        there w =
            let s : look k es ≡ some (val w.0) = ap (λ (x : ℕ). look x es) (sym w.2) ∙ L.has w.0 w.1 in
            ap (replaced lo hi m key val T) (sym w.2) ∙ replaced_at lo hi m key val T L.rising w.0 w.1
            ∙ sym (ap (λ (x : Option Value). or_else x (cond (holds lo hi k) none (look k l))) s)

        other : ((i : ℕ) → i < m → key i ≡ k → ⊥) → replaced lo hi m key val T k ≡ or_else (look k es) (cond (holds lo hi k) none (look k l))
        other h = go (holds lo hi k) refl ∙ sym (ap (λ (x : Option Value). or_else x (cond (holds lo hi k) none (look k l))) (L.none_else k h))
          where
            go : (t : Bool) → holds lo hi k ≡ t → replaced lo hi m key val T k ≡ cond (holds lo hi k) none (look k l)
            go true p = replaced_in lo hi m key val T k (λ i q z. h i q (sym z)) p ∙ rw p refl
            go false p = replaced_out lo hi m key val T k (λ i q z. h i q (sym z)) p ∙ rw p (e k)

    pub size_replaced : (r : ℕ) → Size (replaced lo hi m key val T) r → r ≡ length (replacing lo hi es l)
    size_replaced = size_is (replaced lo hi m key val T) (replacing lo hi es l) replaced_is (above_replacing lo hi es l a)
