-- What stands at each place of a column after a change: `columns::cut` and then none, one or two insertions.
-- Assumes nothing.
use mathlib.Core.Path.{◌≡◌, refl, ◌∙◌}
use mathlib.Core.Bool.{Bool, true, false, false≢true}
use mathlib.Core.List.{List}
use Prim.Native.Nat.{ℕ, suc, ◌+◌, ◌-◌, ◌≤◌, ◌<◌}
use native.Mathlib.Omega.{arith}
use lib.ListN.{length, get_or}
use Rattle.columns.specs.Column.{without}
use Rattle.columns.proofs.Columns.{length_inserted, inserted_before, inserted_at, inserted_after, length_without, cut_before, cut_after}
use Rattle.plans.specs.declared.Plan.{Plan}
use Rattle.plans.specs.Plan.{count, Edited}
use Rattle.bounding.specs.Edit.{put, Editable}

-- ---- an insertion, if it is wanted

pub put_length : (w : Bool) (c : List ℕ) (n at v : ℕ) → at ≤ n → n + count w ≤ length c → length (put w c n at v) ≡ length c
put_length true c n at v h l = length_inserted c n at v h (omega arith)
put_length false c n at v h l = refl

put_before : (w : Bool) (c : List ℕ) (n at v : ℕ) → at ≤ n → n + count w ≤ length c → (x : ℕ) → x < at
    → get_or (put w c n at v) x 0 ≡ get_or c x 0
put_before true c n at v h l x p = inserted_before c n at v h (omega arith) x p
put_before false c n at v h l x p = refl

put_at : (w : Bool) (c : List ℕ) (n at v : ℕ) → at ≤ n → n + count w ≤ length c → w ≡ true → get_or (put w c n at v) at 0 ≡ v
put_at true c n at v h l e = inserted_at c n at v h (omega arith)
put_at false c n at v h l e = absurd (false≢true e)

put_after : (w : Bool) (c : List ℕ) (n at v : ℕ) → at ≤ n → n + count w ≤ length c → (x y : ℕ) → at ≤ x → x < n → y ≡ x + count w
    → get_or (put w c n at v) y 0 ≡ get_or c x 0
put_after true c n at v h l x y p q e =
    let s : y ≡ suc x = omega arith in
    rw s (inserted_after c n at v h (omega arith) x p q)
put_after false c n at v h l x y p q e = let s : y ≡ x = omega arith in rw s

-- ---- a change

-- the column after the change: first the cut, then the bound at hi, then the one at lo before it
abbrev pub edited : List ℕ → ℕ → Plan → ℕ → ℕ → List ℕ
edited c n p x y =
    put p.low (put p.high (without c n p.first p.last) (p.first + (n - p.last)) p.first y) (p.first + (n - p.last) + count p.high) p.first x

module _ (c : List ℕ) (n : ℕ) (p : Plan) (x y : ℕ) (r : Editable c n p) where
  kept : ℕ
  kept = p.first + (n - p.last)

  c₁ : List ℕ
  c₁ = without c n p.first p.last

  long₁ : length c₁ ≡ length c
  unfolding c₁
  long₁ = length_without c n p.first p.last r.ordered r.within r.fits

  c₂ : List ℕ
  c₂ = put p.high c₁ kept p.first y

  in₁ : p.first ≤ kept
  unfolding kept
  in₁ = omega arith

  fits₁ : kept + count p.high ≤ length c₁
  unfolding kept
  fits₁ = omega (arith, long₁)

  long₂ : length c₂ ≡ length c
  unfolding c₂
  long₂ = put_length p.high c₁ kept p.first y in₁ fits₁ ∙ long₁

  in₂ : p.first ≤ kept + count p.high
  unfolding kept
  in₂ = omega arith

  fits₂ : kept + count p.high + count p.low ≤ length c₂
  unfolding kept
  fits₂ = omega (arith, long₂)

  pub edited_length : length (edited c n p x y) ≡ length c
  unfolding c₁ c₂ kept
  edited_length = put_length p.low c₂ (kept + count p.high) p.first x in₂ fits₂ ∙ long₂

  pub edited_is : Edited c n p x y (edited c n p x y)
  unfolding c₁ c₂ kept
  edited_is = record {
    before = λ k h.
        put_before p.low c₂ (kept + count p.high) p.first x in₂ fits₂ k h
        ∙ put_before p.high c₁ kept p.first y in₁ fits₁ k h
        ∙ cut_before c n p.first p.last r.ordered r.within r.fits k h;
    low = λ e. put_at p.low c₂ (kept + count p.high) p.first x in₂ fits₂ e;
    high = λ e.
        let b : count p.high ≡ 1 = rw e refl in
        put_after p.low c₂ (kept + count p.high) p.first x in₂ fits₂ p.first (p.first + count p.low) (omega arith) (omega arith) refl
        ∙ put_at p.high c₁ kept p.first y in₁ fits₁ e;
    after = λ k h.
        put_after p.low c₂ (kept + count p.high) p.first x in₂ fits₂ (p.first + count p.high + k) (p.first + count p.low + count p.high + k) (omega arith) (omega arith) (omega arith)
        ∙ put_after p.high c₁ kept p.first y in₁ fits₁ (p.first + k) (p.first + count p.high + k) (omega arith) (omega arith) (omega arith)
        ∙ cut_after c n p.first p.last r.ordered r.within r.fits k h;
  }
