-- How many bounds a map takes after a change: as many as its plan says, since columns with two more places can always be edited by it.
-- Assumes nothing.
use mathlib.Core.Path.{◌≡◌, ◌∙◌}
use mathlib.Core.Bool.{Bool, true, false}
use mathlib.Core.List.{List, [], ◌∷◌, ◌++◌}
use Prim.Native.Nat.{ℕ, ◌+◌, ◌≤◌}
use native.Mathlib.Omega.{arith}
use lib.ListN.{length, length-append, get_or-append}
use Rattle.keys.specs.declared.Bound.{Bound}
use Rattle.keys.specs.Bound.{below}
use Rattle.delegation.specs.Map.{Keeps, Takes, updated}
use Rattle.delegation.proofs.Laws.{keeps_takes}
use Rattle.plans.specs.declared.Plan.{Plan}
use Rattle.plans.specs.Plan.{key_of, count, Edited, Planned}
use Rattle.bounding.specs.Edit.{Editable}
use Rattle.bounding.proofs.Edited.{edited, edited_length, edited_is}

-- the same column with two more places
longer : List ℕ → List ℕ
longer c = c ++ (0 ∷ 0 ∷ [])

longer_same : (c : List ℕ) (n : ℕ) (p : Plan) (x y : ℕ) (c' : List ℕ) → p.first ≤ p.last → p.last ≤ n → n ≤ length c → Edited (longer c) n p x y c' → Edited c n p x y c'
unfolding longer
longer_same c n p x y c' o w l e = record {
  before = λ k h. e.before k h ∙ get_or-append c (0 ∷ 0 ∷ []) 0 k (omega arith);
  low = e.low;
  high = e.high;
  after = λ k h. e.after k h ∙ get_or-append c (0 ∷ 0 ∷ []) 0 (p.last + k) (omega arith);
}

count_le : (b : Bool) → count b ≤ 1
count_le true = omega arith
count_le false = omega arith

-- a right plan says how many, whatever is lent
pub planned_takes : {lows owners : List ℕ} {n : ℕ} {lo hi : Bound} {v : ℕ} {p : Plan} {f : ℕ → ℕ} → Planned lows owners n lo hi v p → Keeps lows owners n f
    → below lo hi ≡ true → Takes (updated lo hi v f) p.bounds
unfolding longer
planned_takes {lows} {owners} {n} {lo} {hi} {v} {p} {f} r k ne =
    let room : (c : List ℕ) → n ≤ length c → Editable (longer c) n p = λ c h.
    record {
      ordered = r.ordered;
      within = r.within;
      fits = simp length-append (omega arith);
      room = simp length-append (omega (arith, r.ordered, r.within, count_le p.low, count_le p.high));
    } in
    let long : (c : List ℕ) (x y : ℕ) → n ≤ length c → p.bounds ≤ length (edited (longer c) n p x y) = λ c x y h.
    omega (arith, r.bounds, (room c h).room, edited_length (longer c) n p x y (room c h)) in
    let is : (c : List ℕ) (x y : ℕ) → n ≤ length c → Edited c n p x y (edited (longer c) n p x y) = λ c x y h.
    longer_same c n p x y (edited (longer c) n p x y) r.ordered r.within h (edited_is (longer c) n p x y (room c h)) in
    keeps_takes
    (r.keeps f k ne (edited (longer lows) n p (key_of lo) (key_of hi)) (edited (longer owners) n p v p.after)
    (long lows (key_of lo) (key_of hi) k.fits_lows) (long owners v p.after k.fits_owners)
    (is lows (key_of lo) (key_of hi) k.fits_lows) (is owners v p.after k.fits_owners))
