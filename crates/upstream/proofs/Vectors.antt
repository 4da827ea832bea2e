-- A part cut out of a column is upstream's vec_erase on the elements that count.
-- Assumes nothing.
use mathlib.Core.Path.{◌≡◌, ap, sym, ◌∙◌}
use mathlib.Core.Bool.{Bool}
use mathlib.Core.List.{List, ◌++◌, append_assoc}
use Prim.Native.Nat.{ℕ, ◌+◌, ◌-◌, ◌≤◌}
use native.Mathlib.Omega.{arith}
use lib.ListN.{length, take, drop, length-append}
use lib.Seq.{slice, take_at, take-take, length-take-le, length-slice}
use Rattle.columns.specs.Column.{Cut}

-- vec_erase: final(v) == old(v).subrange(0, start) + old(v).subrange(end, old(v).len()), where v is the first n elements and start, end are i, j
pub erase_implied : (c c' : List ℕ) (n i j : ℕ) (r : Bool) → Cut c n i j r c' → i ≤ j → j ≤ n → n ≤ length c
    → take (i + (n - j)) c' ≡ take i (take n c) ++ drop j (take n c)
erase_implied c c' n i j r C h k l =
    let il : i ≤ length c = omega (arith, h, k, l) in
    let front : List ℕ = take i c ++ slice j n c in
    let rest : List ℕ = drop (i + (n - j)) c in
    let long : length front ≡ i + (n - j) = length-append (take i c) (slice j n c)
    ∙ omega (arith, length-take-le i c il, length-slice j n c l) in
    ap (take (i + (n - j))) ((C.done h k l).1 ∙ sym (append_assoc (take i c) (slice j n c) rest))
    ∙ take_at front rest (i + (n - j)) long
    ∙ ap (λ (x : List ℕ). x ++ slice j n c) (sym (take-take i n c (omega (arith, h, k))))
