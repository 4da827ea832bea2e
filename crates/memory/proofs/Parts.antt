-- The laws of a byte string written over a part of a longer one.
-- Assumes nothing.
use mathlib.Core.Path.{◌≡◌, refl, sym, ap, ◌∙◌}
use mathlib.Core.List.{List, [], ◌++◌, append_assoc, append-nil}
use Prim.Native.Nat.{ℕ, ◌+◌, ◌-◌, ◌≤◌}
use native.Mathlib.Omega.{arith}
use lib.ListN.{length, take, drop, get_or, length-append, length-drop, get_or-append}
use lib.Seq.{paste, take-paste, drop-paste, take-add, drop-drop, take-length, length-take-le, drop-append-le, take-append-le, take_at, drop_at}
use Rattle.memory.specs.Bytes.{part, placed}

module _ (d : List ℕ) (at : ℕ) (s : List ℕ) (h : at + length s ≤ length d) where
  front : length (take at d) ≡ at
  front = let al : at ≤ length d = omega arith in length-take-le at d al

  head : length (take at d ++ s) ≡ at + length s
  head = length-append (take at d) s ∙ ap (λ (k : ℕ). k + length s) front

  pub length_placed : length (placed d at s) ≡ length d
  length_placed = simp (length-append, length-drop) (omega (arith, front))

  -- what was written reads back
  pub placed_in : take (length s) (drop at (placed d at s)) ≡ s
  placed_in =
      rw (append_assoc (take at d) s (drop (at + length s) d), drop_at (take at d) (s ++ drop (at + length s) d) at front)
      (take_at s (drop (at + length s) d) (length s) refl)

  -- what lies before it, or after it, is as it was
  pub placed_before : (p n : ℕ) → p + n ≤ at → take n (drop p (placed d at s)) ≡ take n (drop p d)
  placed_before p n q =
      let pl : p ≤ length (take at d) = omega (arith, front) in
      let nl : n ≤ length (drop p (take at d)) = omega (arith, front, length-drop p (take at d)) in
      let pd : p ≤ length d = omega arith in
      let back : take at d ++ drop at d ≡ d = lib.ListN.take-append-drop at d in
      rw (append_assoc (take at d) s (drop (at + length s) d), drop-append-le p (take at d) (s ++ drop (at + length s) d) pl, take-append-le n (drop p (take at d)) (s ++ drop (at + length s) d) nl)
      (sym (ap (λ (l : List ℕ). take n (drop p l)) (sym back) ∙ rw (drop-append-le p (take at d) (drop at d) pl, take-append-le n (drop p (take at d)) (drop at d) nl)))

  pub placed_after : (p n : ℕ) → at + length s ≤ p → take n (drop p (placed d at s)) ≡ take n (drop p d)
  placed_after p n q =
      let e : at + length s + (p - (at + length s)) ≡ p = omega arith in
      ap (λ (k : ℕ). take n (drop k (placed d at s))) (sym e)
      ∙ ap (take n) (sym (drop-drop (p - (at + length s)) (at + length s) (placed d at s))
      ∙ ap (drop (p - (at + length s))) (drop_at (take at d ++ s) (drop (at + length s) d) (at + length s) head)
      ∙ drop-drop (p - (at + length s)) (at + length s) d)
      ∙ ap (λ (k : ℕ). take n (drop k d)) e

-- nothing written changes nothing, and two strings written one behind the other are their join
pub placed_nil : (d : List ℕ) (at : ℕ) → placed d at [] ≡ d
placed_nil d at =
    let e : at + 0 ≡ at = omega arith in
    rw e (ap (λ (l : List ℕ). l ++ drop at d) (append-nil (take at d)) ∙ lib.ListN.take-append-drop at d)

pub placed_then : (d : List ℕ) (at : ℕ) (a b : List ℕ) → at + (length a + length b) ≤ length d → placed (placed d at a) (at + length a) b ≡ placed d at (a ++ b)
placed_then d at a b h =
    let fa : at + length a ≤ length d = omega arith in
    let l : length (take at d ++ a) ≡ at + length a = length-append (take at d) a ∙ ap (λ (k : ℕ). k + length a) (length-take-le at d (omega arith)) in
    let t : take (at + length a) (placed d at a) ≡ take at d ++ a = take_at (take at d ++ a) (drop (at + length a) d) (at + length a) l in
    let e : at + length a + length b ≡ at + length (a ++ b) = omega (arith, length-append a b) in
    let r : drop (at + length a + length b) (placed d at a) ≡ drop (at + length (a ++ b)) d =
    sym (drop-drop (length b) (at + length a) (placed d at a))
    ∙ ap (drop (length b)) (drop_at (take at d ++ a) (drop (at + length a) d) (at + length a) l)
    ∙ drop-drop (length b) (at + length a) d
    ∙ ap (λ (k : ℕ). drop k d) e in
    rw (t, r) (ap (λ (x : List ℕ). x ++ drop (at + length (a ++ b)) d) (append_assoc (take at d) a b))

-- a part that lies within the bytes is as long as it says
pub length_part : (s : List ℕ) (at n : ℕ) → at + n ≤ length s → length (part s at n) ≡ n
length_part s at n h = length-take-le n (drop at s) (omega (arith, length-drop at s))

-- what code takes as `&bytes[at..at + n]` is the part of n bytes
pub part_taken : (s : List ℕ) (at n : ℕ) → take (at + n - at) (drop at s) ≡ part s at n
part_taken s at n = let e : at + n - at ≡ n = omega arith in rw e refl

-- a copy of m elements and then of the n after them is the copy of m + n
pub paste_more : (d : List ℕ) (at : ℕ) (s : List ℕ) (m n : ℕ) → at + m + n ≤ length d → m + n ≤ length s
    → paste (paste d at s m) (at + m) (drop m s) n ≡ paste d at s (m + n)
paste_more d at s m n hd hs =
    let ad : at ≤ length d = omega arith in
    let ms : m ≤ length s = omega arith in
    let e : at + m + n ≡ at + (m + n) = omega arith in
    rw (take-paste d at s m ad ms, ← drop-drop n (at + m) (paste d at s m), drop-paste d at s m ad ms, drop-drop n (at + m) d, e, take-add m n s)
    (ap (λ (l : List ℕ). l ++ drop (at + (m + n)) d) (append_assoc (take at d) (take m s) (take n (drop m s))))

-- the copy of all of s
pub paste_all : (d : List ℕ) (at : ℕ) (s : List ℕ) → paste d at s (length s) ≡ placed d at s
paste_all d at s = rw (take-length s)

-- only the first n elements of what is copied matter
pub paste_same : (d : List ℕ) (at : ℕ) (s t : List ℕ) (n : ℕ) → take n s ≡ take n t → paste d at s n ≡ paste d at t n
paste_same d at s t n e = rw e
