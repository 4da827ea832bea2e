-- The tests decide what they are meant to.
-- Assumes nothing.
use mathlib.Core.Path.{◌≡◌, refl}
use mathlib.Core.Bool.{Bool, true, ◌&&◌, and-eq-true_iff, false≢true}
use mathlib.Core.List.{List, [], ◌∷◌}
use mathlib.Core.Option.{none, some}
use Prim.Native.Nat.{ℕ, suc}
use lib.ListN.{length}
use lib.Dec.{eqb, ltb, leb}
use borrow.Author.Tests.{ltb-true, leb-true, eqb-true, lt-ltb, le-leb, eq-eqb}
use Rattle.format.specs.Number.{numbers}
use Rattle.format.specs.Format.{Format, number, string, maybe, pair, choice, entries, Entry, Of, listing, Above, Small, Good}
use Rattle.decoding.specs.Decode.{same, above, small, good}

-- both tests of a conjunction hold
both : {a b : Bool} → a && b ≡ true → (a ≡ true) × (b ≡ true)
both {a} {b} e = (and-eq-true_iff a b).0 e

join : {a b : Bool} → a ≡ true → b ≡ true → a && b ≡ true
join {a} {b} p q = (and-eq-true_iff a b).1 (p, q)

pub same_true : (a b : List ℕ) → same a b ≡ true → a ≡ b
same_true [] [] e = refl
same_true [] (y ∷ b) e = absurd (false≢true e)
same_true (x ∷ a) [] e = absurd (false≢true e)
same_true (x ∷ a) (y ∷ b) e =
    let u = both {a = eqb x y} {b = same a b} e in
    let h : x ≡ y = eqb-true x y u.0 in
    let t : a ≡ b = same_true a b u.1 in
    λ i. h i ∷ t i

pub same_refl : (a : List ℕ) → same a a ≡ true
same_refl [] = refl
same_refl (x ∷ a) = join {a = eqb x x} {b = same a a} (eq-eqb x x refl) (same_refl a)

above_true : (low : ℕ) (l : List Entry) → above low l ≡ true → Above low l
above_true low [] e = tt
above_true low (x ∷ l) e =
    let u = both {a = leb low x.key} {b = above (suc x.key) l} e in
    (leb-true low x.key u.0, above_true (suc x.key) l u.1)

above_of : (low : ℕ) (l : List Entry) → Above low l → above low l ≡ true
above_of low [] h = refl
above_of low (x ∷ l) h =
    join {a = leb low x.key} {b = above (suc x.key) l} (le-leb low x.key h.0) (above_of (suc x.key) l h.1)

small_true : (l : List Entry) → small l ≡ true → Small l
small_true [] e = tt
small_true (x ∷ l) e =
    let u = both {a = ltb x.key numbers} {b = ltb (length x.value) numbers && small l} e in
    let w = both {a = ltb (length x.value) numbers} {b = small l} u.1 in
    (ltb-true x.key numbers u.0, ltb-true (length x.value) numbers w.0, small_true l w.1)

small_of : (l : List Entry) → Small l → small l ≡ true
small_of [] h = refl
small_of (x ∷ l) h =
    join {a = ltb x.key numbers} {b = ltb (length x.value) numbers && small l} (lt-ltb x.key numbers h.0)
    (join {a = ltb (length x.value) numbers} {b = small l} (lt-ltb (length x.value) numbers h.1) (small_of l h.2))

pub good_true : (f : Format) (v : Of f) → good f v ≡ true → Good f v
good_true number n e = ltb-true n numbers e
good_true (string limit) v e =
    let u = both {a = ltb (length v) limit} {b = ltb (length v) numbers} e in
    (ltb-true (length v) limit u.0, ltb-true (length v) numbers u.1)
good_true (maybe f) none e = tt
good_true (maybe f) (some v) e = good_true f v e
good_true (pair f g) v e =
    let u = both {a = good f v.0} {b = good g v.1} e in (good_true f v.0 u.0, good_true g v.1 u.1)
good_true (choice n fs) v e =
    let u = both {a = ltb v.0 n} {b = good (fs v.0) v.1} e in (ltb-true v.0 n u.0, good_true (fs v.0) v.1 u.1)
good_true (entries limit) l e =
    let u = both {a = ltb (length l) numbers} {b = small l && (above 0 l && leb (length (listing l)) limit)} e in
    let w = both {a = small l} {b = above 0 l && leb (length (listing l)) limit} u.1 in
    let x = both {a = above 0 l} {b = leb (length (listing l)) limit} w.1 in
    (ltb-true (length l) numbers u.0, small_true l w.0, above_true 0 l x.0, leb-true (length (listing l)) limit x.1)

pub good_of : (f : Format) (v : Of f) → Good f v → good f v ≡ true
good_of number n h = lt-ltb n numbers h
good_of (string limit) v h =
    join {a = ltb (length v) limit} {b = ltb (length v) numbers} (lt-ltb (length v) limit h.0) (lt-ltb (length v) numbers h.1)
good_of (maybe f) none h = refl
good_of (maybe f) (some v) h = good_of f v h
good_of (pair f g) v h = join {a = good f v.0} {b = good g v.1} (good_of f v.0 h.0) (good_of g v.1 h.1)
good_of (choice n fs) v h =
    join {a = ltb v.0 n} {b = good (fs v.0) v.1} (lt-ltb v.0 n h.0) (good_of (fs v.0) v.1 h.1)
good_of (entries limit) l h =
    join {a = ltb (length l) numbers} {b = small l && (above 0 l && leb (length (listing l)) limit)} (lt-ltb (length l) numbers h.0)
    (join {a = small l} {b = above 0 l && leb (length (listing l)) limit} (small_of l h.1)
    (join {a = above 0 l} {b = leb (length (listing l)) limit} (above_of 0 l h.2) (le-leb (length (listing l)) limit h.3)))
