-- The laws of a host's records: what each change does with what a key holds, and that keys go on rising.
-- Assumes nothing.
use mathlib.Core.Path.{◌≡◌, refl, sym, ap, ◌∙◌}
use mathlib.Core.Bool.{Bool, true, false, cond, not}
use mathlib.Core.List.{List, [], ◌∷◌}
use mathlib.Core.Option.{Option, none, some, none-ne-some}
use Prim.Native.Nat.{ℕ, suc, ◌≤◌, ◌<◌}
use native.Mathlib.Omega.{arith}
use lib.Dec.{eqb, ltb}
use borrow.Author.Tests.{eqb-true, eqb-false, ltb-true, ltb-false, ne_eqb, eq-eqb}
use Rattle.keys.specs.declared.Bound.{Bound}
use Rattle.keys.specs.Bound.{holds}
use Rattle.format.specs.Format.{Entry, Above}
use Rattle.protocol.specs.Records.{Value, look, kept, without, filed, setting, in_range, outside, storing, replacing}

-- ---- keys that rise

pub above_less : (low low' : ℕ) (l : List Entry) → low' ≤ low → Above low l → Above low' l
above_less low low' [] h a = tt
above_less low low' (e ∷ l) h a = (omega (arith, a.0), a.1)

-- a key below all of them holds nothing
pub look_below : (k low : ℕ) (l : List Entry) → Above low l → k < low → look k l ≡ none
look_below k low [] a h = refl
look_below k low (e ∷ l) a h =
    let n : eqb k e.key ≡ false = ne_eqb k e.key (λ q. omega (arith, a.0)) in
    rw n (look_below k (suc e.key) l a.1 (omega (arith, a.0)))

-- ---- what passes a test is kept

pub look_kept : (p : ℕ → Bool) (j : ℕ) (l : List Entry) → look j (kept p l) ≡ cond (p j) (look j l) none
look_kept p j [] = go (p j)
  where
    go : (t : Bool) → ◌≡◌ {A = Option Value} none (cond t none none)
    go true = refl
    go false = refl
look_kept p j (e ∷ l) = go (eqb j e.key) refl (p e.key) refl (look_kept p j l)
  where
    go : (t : Bool) → eqb j e.key ≡ t → (u : Bool) → p e.key ≡ u → look j (kept p l) ≡ cond (p j) (look j l) none
        → look j (cond u (e ∷ kept p l) (kept p l)) ≡ cond (p j) (cond t (some e.value) (look j l)) none
    go true q true r h = let s : p j ≡ true = ap p (eqb-true j e.key q) ∙ r in rw (q, s) refl
    go true q false r h = let s : p j ≡ false = ap p (eqb-true j e.key q) ∙ r in h ∙ rw s refl
    go false q true r h = rw q h
    go false q false r h = h

pub above_kept : (p : ℕ → Bool) (low : ℕ) (l : List Entry) → Above low l → Above low (kept p l)
above_kept p low [] a = tt
above_kept p low (e ∷ l) a = go (p e.key) (above_kept p (suc e.key) l a.1)
  where
    go : (t : Bool) → Above (suc e.key) (kept p l) → Above low (cond t (e ∷ kept p l) (kept p l))
    go true h = (a.0, h)
    go false h = above_less (suc e.key) low (kept p l) (omega (arith, a.0)) h

-- what a negated test leaves out
left_out : (t : Bool) (v : Option Value) → cond (not t) v none ≡ cond t none v
left_out true v = refl
left_out false v = refl

pub look_without : (k j : ℕ) (l : List Entry) → look j (without k l) ≡ cond (eqb j k) none (look j l)
look_without k j l = look_kept (λ i. not (eqb i k)) j l ∙ left_out (eqb j k) (look j l)

-- ---- an entry in its place

pub look_filed : (x : Entry) (j low : ℕ) (l : List Entry) → Above low l → look x.key l ≡ none
    → look j (filed x l) ≡ cond (eqb j x.key) (some x.value) (look j l)
look_filed x j low [] a n = refl
look_filed x j low (e ∷ l) a n = go (ltb x.key e.key) refl (eqb x.key e.key) refl n (look_filed x j (suc e.key) l a.1)
  where
    swap : (t u : Bool) → eqb j x.key ≡ t → eqb j e.key ≡ u → eqb x.key e.key ≡ false
        → cond u (some e.value) (cond t (some x.value) (look j l)) ≡ cond t (some x.value) (cond u (some e.value) (look j l))
    swap true true p q r = absurd (eqb-false x.key e.key r (sym (eqb-true j x.key p) ∙ eqb-true j e.key q))
    swap true false p q r = refl
    swap false true p q r = refl
    swap false false p q r = refl

    go : (t : Bool) → ltb x.key e.key ≡ t → (u : Bool) → eqb x.key e.key ≡ u → cond u (some e.value) (look x.key l) ≡ none
        → (look x.key l ≡ none → look j (filed x l) ≡ cond (eqb j x.key) (some x.value) (look j l))
        → look j (cond t (x ∷ e ∷ l) (e ∷ filed x l)) ≡ cond (eqb j x.key) (some x.value) (cond (eqb j e.key) (some e.value) (look j l))
    go true s u r h rest = refl
    go false s true r h rest = absurd (none-ne-some e.value (sym h))
    go false s false r h rest =
        ap (λ (y : Option Value). cond (eqb j e.key) (some e.value) y) (rest h)
        ∙ swap (eqb j x.key) (eqb j e.key) refl refl r

pub above_filed : (x : Entry) (low : ℕ) (l : List Entry) → Above low l → low ≤ x.key → look x.key l ≡ none → Above low (filed x l)
above_filed x low [] a h n = (h, tt)
above_filed x low (e ∷ l) a h n = go (ltb x.key e.key) refl (eqb x.key e.key) refl n (above_filed x (suc e.key) l a.1)
  where
    go : (t : Bool) → ltb x.key e.key ≡ t → (u : Bool) → eqb x.key e.key ≡ u → cond u (some e.value) (look x.key l) ≡ none
        → (suc e.key ≤ x.key → look x.key l ≡ none → Above (suc e.key) (filed x l))
        → Above low (cond t (x ∷ e ∷ l) (e ∷ filed x l))
    go true s u r q rest = (h, (ltb-true x.key e.key s, a.1))
    go false s true r q rest = absurd (none-ne-some e.value (sym q))
    go false s false r q rest =
        (a.0, rest (omega (arith, ltb-false x.key e.key s, eqb-false x.key e.key r)) q)

-- ---- a key set

-- the key is out, so it can be put in its place
out : (k : ℕ) (l : List Entry) → look k (without k l) ≡ none
out k l = look_without k k l ∙ rw (eq-eqb k k refl) refl

pub look_setting : (k : ℕ) (v : Option Value) (l : List Entry) → Above 0 l → (j : ℕ) → look j (setting k v l) ≡ cond (eqb j k) v (look j l)
look_setting k none l a j = look_without k j l
look_setting k (some v) l a j =
    look_filed (record { key = k; value = v }) j 0 (without k l) (above_kept (λ i. not (eqb i k)) 0 l a) (out k l) ∙ go (eqb j k) refl
  where
    go : (t : Bool) → eqb j k ≡ t → cond t (some v) (look j (without k l)) ≡ cond t (some v) (look j l)
    go true e = refl
    go false e = look_without k j l ∙ rw e refl

pub above_setting : (k : ℕ) (v : Option Value) (l : List Entry) → Above 0 l → Above 0 (setting k v l)
above_setting k none l a = above_kept (λ i. not (eqb i k)) 0 l a
above_setting k (some v) l a = above_filed (record { key = k; value = v }) 0 (without k l) (above_kept (λ i. not (eqb i k)) 0 l a) (omega arith) (out k l)

-- ---- ranges

pub look_in_range : (lo hi : Bound) (j : ℕ) (l : List Entry) → look j (in_range lo hi l) ≡ cond (holds lo hi j) (look j l) none
look_in_range lo hi j l = look_kept (holds lo hi) j l

pub look_outside : (lo hi : Bound) (j : ℕ) (l : List Entry) → look j (outside lo hi l) ≡ cond (holds lo hi j) none (look j l)
look_outside lo hi j l = look_kept (λ i. not (holds lo hi i)) j l ∙ left_out (holds lo hi j) (look j l)

-- ---- a range replaced

pub above_storing : (es l : List Entry) → Above 0 l → Above 0 (storing es l)
above_storing [] l a = a
above_storing (e ∷ es) l a = above_storing es (setting e.key (some e.value) l) (above_setting e.key (some e.value) l a)

pub above_replacing : (lo hi : Bound) (es l : List Entry) → Above 0 l → Above 0 (replacing lo hi es l)
above_replacing lo hi es l a = above_storing es (outside lo hi l) (above_kept (λ j. not (holds lo hi j)) 0 l a)

-- an entry that is stored holds, and else what was there
abbrev pub or_else : Option Value → Option Value → Option Value
or_else none w = w
or_else (some v) w = some v

pub look_storing : (es l : List Entry) (low : ℕ) → Above low es → Above 0 l → (j : ℕ) → look j (storing es l) ≡ or_else (look j es) (look j l)
look_storing [] l low b a j = refl
look_storing (e ∷ es) l low b a j =
    look_storing es (setting e.key (some e.value) l) (suc e.key) b.1 (above_setting e.key (some e.value) l a) j
    ∙ ap (or_else (look j es)) (look_setting e.key (some e.value) l a j)
    ∙ go (eqb j e.key) refl
  where
    go : (t : Bool) → eqb j e.key ≡ t → or_else (look j es) (cond t (some e.value) (look j l)) ≡ or_else (cond t (some e.value) (look j es)) (look j l)
    go true q =
        let n : look j es ≡ none = look_below j (suc e.key) es b.1 (omega (arith, eqb-true j e.key q)) in rw n refl
    go false q = refl

pub look_replacing : (lo hi : Bound) (es l : List Entry) → Above 0 es → Above 0 l → (j : ℕ)
    → look j (replacing lo hi es l) ≡ or_else (look j es) (cond (holds lo hi j) none (look j l))
look_replacing lo hi es l b a j =
    look_storing es (outside lo hi l) 0 b (above_kept (λ j. not (holds lo hi j)) 0 l a) j ∙ ap (or_else (look j es)) (look_outside lo hi j l)
