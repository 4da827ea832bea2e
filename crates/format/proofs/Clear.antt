-- The law of every format: where two encodings with whatever follows them are the same bytes, the values are equal, and so is what
-- follows. So a value is written in one way, and no encoding begins another.
-- Assumes nothing.
use mathlib.Core.Path.{◌≡◌, refl, sym, ap, ◌∙◌, path_j}
use mathlib.Core.List.{List, [], ◌∷◌, ◌++◌, append_assoc, append-nil, head-eq_of_cons-eq, tail-eq_of_cons-eq}
use mathlib.Core.Option.{none, some}
use Prim.Native.Nat.{ℕ, ◌+◌, ◌<◌}
use native.Mathlib.Omega.{arith}
use lib.ListN.{length, length-append}
use Rattle.format.specs.Number.{width, numbers, digits}
use Rattle.format.specs.Format.{Format, number, string, maybe, pair, choice, entries, Entry, Of, counted, rows, encode, Small, Good}
use Rattle.format.proofs.Numbers.{length_digits, digits_same}

-- fronts of one length are equal, and so is what follows them
pub fronts : (a b r t : List ℕ) → length a ≡ length b → a ++ r ≡ b ++ t → (a ≡ b) × (r ≡ t)
fronts [] [] r t h e = (refl, e)
fronts [] (y ∷ b) r t h e = absurd (omega arith)
fronts (x ∷ a) [] r t h e = absurd (omega arith)
fronts (x ∷ a) (y ∷ b) r t h e =
    let u = fronts a b r t (omega arith) (tail-eq_of_cons-eq e) in
    let hd : x ≡ y = head-eq_of_cons-eq e in
    (ap (λ (z : ℕ). z ∷ a) hd ∙ ap (λ (l : List ℕ). y ∷ l) u.0, u.1)

number_clear : (n m : ℕ) → n < numbers → m < numbers → (r t : List ℕ) → digits width n ++ r ≡ digits width m ++ t → (n ≡ m) × (r ≡ t)
number_clear n m p q r t e =
    let u = fronts (digits width n) (digits width m) r t (length_digits width n ∙ sym (length_digits width m)) e in
    (digits_same width n m p q u.0, u.1)

counted_clear : (v w : List ℕ) → length v < numbers → length w < numbers → (r t : List ℕ) → counted v ++ r ≡ counted w ++ t → (v ≡ w) × (r ≡ t)
counted_clear v w p q r t e =
    let a = append_assoc (digits width (length v)) v r in
    let b = append_assoc (digits width (length w)) w t in
    let u = number_clear (length v) (length w) p q (v ++ r) (w ++ t) (sym a ∙ e ∙ b) in
    fronts v w r t u.0 u.1

-- one entry
row_clear : (e d : Entry) → e.key < numbers → length e.value < numbers → d.key < numbers → length d.value < numbers → (r t : List ℕ)
    → (digits width e.key ++ counted e.value) ++ r ≡ (digits width d.key ++ counted d.value) ++ t → (e ≡ d) × (r ≡ t)
row_clear e d ek ev dk dv r t h =
    let a = append_assoc (digits width e.key) (counted e.value) r in
    let b = append_assoc (digits width d.key) (counted d.value) t in
    let u = number_clear e.key d.key ek dk (counted e.value ++ r) (counted d.value ++ t) (sym a ∙ h ∙ b) in
    let w = counted_clear e.value d.value ev dv r t u.1 in
    (λ i. record { key = u.0 i; value = w.0 i }, w.1)

-- as many entries on both sides, or the second has more: then the rest of the first is where they go on
pub rows_clear : (l m : List Entry) → length l ≡ length m → Small l → Small m → (r t : List ℕ) → rows l ++ r ≡ rows m ++ t → (l ≡ m) × (r ≡ t)
rows_clear [] [] h p q r t e = (refl, e)
rows_clear [] (d ∷ m) h p q r t e = absurd (omega arith)
rows_clear (x ∷ l) [] h p q r t e = absurd (omega arith)
rows_clear (x ∷ l) (d ∷ m) h p q r t e =
    let a = append_assoc (digits width x.key ++ counted x.value) (rows l) r in
    let b = append_assoc (digits width d.key ++ counted d.value) (rows m) t in
    let u = row_clear x d p.0 p.1 q.0 q.1 (rows l ++ r) (rows m ++ t) (sym a ∙ e ∙ b) in
    let w = rows_clear l m (omega arith) p.2 q.2 r t u.1 in
    (λ i. u.0 i ∷ w.0 i, w.1)

-- a choice: the byte decides the format, and the values are of that one
choose : (fs : ℕ → Format) (t : ℕ) (v : Of (fs t)) (r q : List ℕ)
    → ((w : Of (fs t)) → Good (fs t) w → encode (fs t) v ++ r ≡ encode (fs t) w ++ q → (v ≡ w) × (r ≡ q))
    → (t' : ℕ) (e : t ≡ t') (w : Of (fs t')) → Good (fs t') w → encode (fs t) v ++ r ≡ encode (fs t') w ++ q
    → (◌≡◌ {A = (x : ℕ) × Of (fs x)} (t, v) (t', w)) × (r ≡ q)
choose fs t v r q same t' e =
    path_j
    (λ (t' : ℕ) (e : t ≡ t'). (w : Of (fs t')) → Good (fs t') w → encode (fs t) v ++ r ≡ encode (fs t') w ++ q
    → (◌≡◌ {A = (x : ℕ) × Of (fs x)} (t, v) (t', w)) × (r ≡ q))
    (λ w g h. (ap (λ (x : Of (fs t)). (t, x)) (same w g h).0, (same w g h).1))
    e

pub clear : (f : Format) (v w : Of f) → Good f v → Good f w → (r t : List ℕ) → encode f v ++ r ≡ encode f w ++ t → (v ≡ w) × (r ≡ t)
clear number v w p q r t e = number_clear v w p q r t e
clear (string limit) v w p q r t e = counted_clear v w p.1 q.1 r t e
clear (maybe f) none none p q r t e = (refl, tail-eq_of_cons-eq e)
clear (maybe f) none (some w) p q r t e = let h : ◌≡◌ {A = ℕ} 0 1 = head-eq_of_cons-eq e in absurd (omega arith)
clear (maybe f) (some v) none p q r t e = let h : ◌≡◌ {A = ℕ} 1 0 = head-eq_of_cons-eq e in absurd (omega arith)
clear (maybe f) (some v) (some w) p q r t e = let u = clear f v w p q r t (tail-eq_of_cons-eq e) in (ap some u.0, u.1)
clear (pair f g) v w p q r t e =
    let a = append_assoc (encode f v.0) (encode g v.1) r in
    let b = append_assoc (encode f w.0) (encode g w.1) t in
    let u = clear f v.0 w.0 p.0 q.0 (encode g v.1 ++ r) (encode g w.1 ++ t) (sym a ∙ e ∙ b) in
    let x = clear g v.1 w.1 p.1 q.1 r t u.1 in
    (λ i. (u.0 i, x.0 i), x.1)
clear (choice n fs) v w p q r t e =
    choose fs v.0 v.1 r t (λ x g h. clear (fs v.0) v.1 x p.1 g r t h) w.0 (head-eq_of_cons-eq e) w.1 q.1 (tail-eq_of_cons-eq e)
clear (entries limit) l m p q r t e =
    let a = append_assoc (digits width (length l)) (rows l) r in
    let b = append_assoc (digits width (length m)) (rows m) t in
    let u = number_clear (length l) (length m) p.0 q.0 (rows l ++ r) (rows m ++ t) (sym a ∙ e ∙ b) in
    rows_clear l m u.0 p.1 q.1 r t u.1

-- a value is written in one way
pub injective : (f : Format) (v w : Of f) → Good f v → Good f w → encode f v ≡ encode f w → v ≡ w
injective f v w p q e = (clear f v w p q [] [] (ap (λ (l : List ℕ). l ++ []) e)).0

-- no encoding begins another: if one goes on as the other, the values are equal and nothing goes on
pub no_prefix : (f : Format) (v w : Of f) → Good f v → Good f w → (rest : List ℕ) → encode f v ++ rest ≡ encode f w → (v ≡ w) × (rest ≡ [])
no_prefix f v w p q rest e = clear f v w p q rest [] (e ∙ sym (append-nil (encode f w)))

-- the bytes that a byte string takes
pub length_counted : (s : List ℕ) → length (counted s) ≡ width + length s
length_counted s = length-append (digits width (length s)) s ∙ ap (λ (n : ℕ). n + length s) (length_digits width (length s))
