-- `removals::sink` meets its contract. Where one goes, the part from i up to n is turned: those from j on come first. Else each turn of the loop
-- swaps two places: those from j up to `from` stand from i on, those before i and from `from` on as at first. A permutation stays one.
-- Assumes nothing.
use mathlib.Core.Path.{◌≡◌, sym, ap, ◌∙◌, subst}
use mathlib.Core.Logic.{⊎_elim}
use mathlib.Core.List.{List, ◌++◌}
use Prim.Native.Nat.{ℕ, ◌+◌, ◌-◌, ◌≤◌, ◌<◌}
use native.Mathlib.Omega.{arith}
use lib.ListN.{length, take, drop, get_or, get_or-append}
use lib.Seq.{length-take-le, get_or-append-add, get_or-take, get_or-drop}
use borrow.Rule.Slice.PartMut.{mid_of, post_of, put_mid, mid_len}
use Rattle.std.specs.List.{RotatedLeft}
use Rattle.std.proofs.lemmas.List.Sorted.{IsPermutation-keeps, IsPermutation-put_mid}
use Rattle.columns.proofs.Cases.{lt_or_ge}
use Rattle.records.specs.Memory.{Slots}
use Rattle.removals.proofs.Swap.{swapped, swap_is, length_swapped, swap_first, swap_other, swap_slots}
use Rattle.removals.proofs.sink.Goals as goal

module _ (s : List ℕ) (n i j : ℕ) (ij : i ≤ j) (jn : j ≤ n) (ns : n ≤ length s) (t : List ℕ) (long : length t ≡ length (mid_of i (n - i) s)) where
  turned : List ℕ
  turned = put_mid i (n - i) s t

  front : length (take i s) ≡ i
  front = length-take-le i s (omega arith)

  before : (x : ℕ) → x < i → get_or turned x 0 ≡ get_or s x 0
  unfolding turned
  before x p = get_or-append (take i s) (t ++ post_of i (n - i) s) 0 x (omega (arith, front)) ∙ get_or-take i s x 0 p

  after : RotatedLeft (mid_of i (n - i) s) t (length (mid_of i (n - i) s)) (j - i) → (y : ℕ) → j + y < n → get_or turned (i + y) 0 ≡ get_or s (j + y) 0
  unfolding turned
  after r y p =
      let m : length (mid_of i (n - i) s) ≡ n - i = mid_len i n s ns in
      let e : i + (y + (j - i)) ≡ j + y = omega arith in
      ap (λ (k : ℕ). get_or turned (k + y) 0) (sym front)
      ∙ get_or-append-add (take i s) (t ++ post_of i (n - i) s) y 0
      ∙ get_or-append t (post_of i (n - i) s) 0 y (omega (arith, m, long))
      ∙ r.0 y 0 (omega (arith, m))
      ∙ get_or-take (n - i) (drop i s) (y + (j - i)) 0 (omega arith)
      ∙ get_or-drop i s (y + (j - i)) 0
      ∙ ap (λ (k : ℕ). get_or s k 0) e

pub returns-then-gone-eq1 : goal.returns-then-gone-eq1
unfolding turned
returns-then-gone-eq1 c =
    let a = c.args in
    let s : List ℕ = a.slots.now in
    let t = c.rotate_left.new.self in
    let r = c.rotate_left.ensures in
    record {
      before = before s a.n a.i a.j c.requires.0 c.requires.1 c.requires.2 t r.len;
      after = after s a.n a.i a.j c.requires.0 c.requires.1 c.requires.2 t r.len (rw c.if-gone-eq1.true r.by_index);
      keeps = λ k. IsPermutation-keeps s Slots k (λ l x y p q h. subst Slots (sym (swap_is l x y p q)) (swap_slots l x y p q h)) _
          (IsPermutation-put_mid a.i (a.n - a.i) s t r.permutation);
    }

pub loop-from-preserved : goal.loop-from-preserved
loop-from-preserved c =
    let l = c.loop-from in
    let a = c.args in
    let s : List ℕ = l.slots in
    let f : ℕ = l.from in
    let t : ℕ = l.from - (a.j - a.i) in
    let pf : f < length s = omega (arith, l.invariant.0) in
    let pt : t < length s = omega (arith, l.invariant.0) in
    let other : (x : ℕ) → (x ≡ t → ⊥) → (x ≡ f → ⊥) → get_or (swapped s t f) x 0 ≡ get_or s x 0 = swap_other s t f pt pf in (
      length_swapped s t f ∙ l.invariant.0,
      λ x p. other x (omega arith) (omega arith) ∙ l.invariant.1 x p,
      λ y p.
          ⊎_elim
          (λ q. other (a.i + y) (omega arith) (omega arith) ∙ l.invariant.2 y q)
          (λ q.
          let e : a.i + y ≡ t = omega arith in
          let d : f ≡ a.j + y = omega arith in
          ap (λ (x : ℕ). get_or (swapped s t f) x 0) e ∙ swap_first s t f pt pf ∙ l.invariant.3 f (omega arith) ∙ ap (λ (x : ℕ). get_or a.slots.now x 0) d)
          (lt_or_ge (a.j + y) f),
      λ x p. other x (omega arith) (omega arith) ∙ l.invariant.3 x (omega arith),
      λ h. swap_slots s t f pt pf (l.invariant.4 h),
    )
