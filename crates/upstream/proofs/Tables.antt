-- A table has one list of entries with rising keys, so one number of keys; and a table with a long value is not valid.
-- Assumes nothing.
use mathlib.Core.Path.{◌≡◌, refl, sym, ◌∙◌, subst}
use mathlib.Core.Bool.{Bool, true, false, ◌||◌, false≢true}
use mathlib.Core.List.{List, [], ◌∷◌}
use mathlib.Core.Option.{none, some, none-ne-some}
use Prim.Native.Nat.{ℕ, suc, ◌≤◌, ◌<◌}
use native.Mathlib.Omega.{arith}
use lib.ListN.{length}
use lib.Dec.{eqb, ltb}
use borrow.Author.Tests.{eqb-true, eqb-false, eq-eqb, ne_eqb, ltb-true, ltb-false}
use Rattle.limits.specs.Limits.{value_max}
use Rattle.format.specs.Format.{Entry, Above}
use Rattle.protocol.specs.Records.{Value, look}
use Rattle.protocol.specs.Process.{any_long}
use Rattle.protocol.proofs.Entries.{look_below}
use Rattle.upstream.specs.Messages.{Hashtable, Len}

-- what a key holds at the front of a list, and elsewhere
look_first : (e : Entry) (l : List Entry) → look e.key (e ∷ l) ≡ some e.value
look_first e l = rw (eq-eqb e.key e.key refl) refl

look_later : (e : Entry) (l : List Entry) (k : ℕ) → (k ≡ e.key → ⊥) → look k (e ∷ l) ≡ look k l
look_later e l k n = rw (ne_eqb k e.key n) refl

-- a key below the first holds nothing
look_less : (k : ℕ) (e : Entry) (l : List Entry) → Above (suc e.key) l → k < e.key → look k (e ∷ l) ≡ none
look_less k e l a h = look_below k e.key (e ∷ l) (omega arith, a) h

pub same_entries : (low : ℕ) (l m : List Entry) → Above low l → Above low m → ((k : ℕ) → look k l ≡ look k m) → length l ≡ length m
same_entries low [] [] a b h = refl
same_entries low [] (f ∷ m) a b h = absurd (none-ne-some f.value (h f.key ∙ look_first f m))
same_entries low (e ∷ l) [] a b h = absurd (none-ne-some e.value (sym (h e.key) ∙ look_first e l))
same_entries low (e ∷ l) (f ∷ m) a b h = go (ltb e.key f.key) refl (ltb f.key e.key) refl (same_entries (suc e.key) l m a.1)
  where
    go : (t : Bool) → ltb e.key f.key ≡ t → (u : Bool) → ltb f.key e.key ≡ u
        → (Above (suc e.key) m → ((k : ℕ) → look k l ≡ look k m) → length l ≡ length m) → length (e ∷ l) ≡ length (f ∷ m)
    go true p u q rest =
        absurd (none-ne-some e.value (sym (look_less e.key f m b.1 (ltb-true e.key f.key p)) ∙ sym (h e.key) ∙ look_first e l))
    go false p true q rest =
        absurd (none-ne-some f.value (sym (look_less f.key e l a.1 (ltb-true f.key e.key q)) ∙ h f.key ∙ look_first f m))
    go false p false q rest =
        let s : f.key ≡ e.key = omega (arith, ltb-false e.key f.key p, ltb-false f.key e.key q) in
        let am : Above (suc e.key) m = subst (λ (k : ℕ). Above (suc k) m) s b.1 in
        let tails : (k : ℕ) → look k l ≡ look k m = λ k. tail k am s in
        let r : length l ≡ length m = rest am tails in
        omega (arith, r)
      where
        tail : (k : ℕ) → Above (suc e.key) m → f.key ≡ e.key → look k l ≡ look k m
        tail k am s = at (eqb k e.key) refl
          where
            at : (t : Bool) → eqb k e.key ≡ t → look k l ≡ look k m
            at true w =
                let q : k ≡ e.key = eqb-true k e.key w in
                look_below k (suc e.key) l a.1 (omega (arith, q)) ∙ sym (look_below k (suc e.key) m am (omega (arith, q)))
            at false w =
                let n : k ≡ e.key → ⊥ = eqb-false k e.key w in
                sym (look_later e l k n) ∙ h k ∙ look_later f m k (λ q. n (q ∙ s))

-- a table has one number of keys
pub len_unique : (h : Hashtable) (n : ℕ) (l : List Entry) → Above 0 l → ((k : ℕ) → look k l ≡ h k) → Len h n → length l ≡ n
len_unique h n l a e L = same_entries 0 l L.0 a L.1 (λ k. e k ∙ sym (L.2 k)) ∙ L.3

-- a long value is a key's
pub a_long_one : (low : ℕ) (l : List Entry) → Above low l → any_long l ≡ true → (k : ℕ) × (v : Value) × (look k l ≡ some v) × (value_max < length v) × (low ≤ k)
a_long_one low [] a e = absurd (false≢true e)
a_long_one low (d ∷ l) a e = go (ltb value_max (length d.value)) refl e (a_long_one (suc d.key) l a.1)
  where
    go : (t : Bool) → ltb value_max (length d.value) ≡ t → t || any_long l ≡ true
        → (any_long l ≡ true → (k : ℕ) × (v : Value) × (look k l ≡ some v) × (value_max < length v) × (suc d.key ≤ k))
        → (k : ℕ) × (v : Value) × (look k (d ∷ l) ≡ some v) × (value_max < length v) × (low ≤ k)
    go true p q f = (d.key, d.value, look_first d l, ltb-true value_max (length d.value) p, a.0)
    go false p q f =
        let r = f q in
        let w = r.4 in
        let z = a.0 in
        (r.0, r.1, look_later d l r.0 (λ s. omega (arith, s, w)) ∙ r.2, r.3, omega (arith, w, z))
