-- Addresses one after the other: memory that keeps some keeps fewer, and one more if it is short enough and new.
-- Assumes nothing.
use mathlib.Core.Path.{◌≡◌, refl, sym, ap, ◌∙◌}
use mathlib.Core.Logic.{⊎_elim}
use mathlib.Core.Bool.{Bool, true, false, true≢false, false≢true}
use mathlib.Core.List.{List}
use Prim.Native.Nat.{ℕ, ◌+◌, ◌-◌, ◌*◌, ◌/◌, ◌≤◌, ◌<◌}
use native.Mathlib.Nat.{suc-mul, mul-le-mul_right, le-div_iff_mul-le}
use native.Mathlib.Numerals.{add-one}
use native.Mathlib.Omega.{arith}
use lib.ListN.{length, take, drop, get_or}
use Rattle.memory.proofs.Parts.{part_taken}
use Rattle.columns.proofs.Cases.{lt_or_ge}
use Rattle.std.specs.Prelude.{Option, Some, None, is_some, not}
use Rattle.peers.specs.Names.{Keeps, AfterFind}
use Rattle.audits_names.specs.Answers.{Valid}
use Rattle.audits_names.specs.Inner.{name_at, Fresh}

-- an address as code takes it from the names
abbrev lent : (lens names : List ℕ) → ℕ → ℕ → List ℕ
lent lens names w i = take (i * w + get_or lens i 0 - i * w) (drop (i * w) names)

module _ {lens names : List ℕ} {w : ℕ} where
  keeps_fewer : {n : ℕ} {N : ℕ → List ℕ} (i : ℕ) → i ≤ n → Keeps lens names w n N → Keeps lens names w i N
  keeps_fewer {n} i h K = record {
    wide = K.wide;
    fits_lens = omega (arith, h, K.fits_lens);
    fits_names = omega (arith, mul-le-mul_right {m = i} {n = n} w h, K.fits_names);
    short = λ j q. K.short j (omega arith);
    is = λ j q. K.is j (omega arith);
    distinct = λ x y p q e. K.distinct x y (omega arith) (omega arith) e;
  }

  -- ---- one address

  pub too_long : {i : ℕ} → w < get_or lens i 0 → Fresh lens names w i false
  too_long {i} h = record { yes = λ e. absurd (false≢true e); no = λ e n N q K. omega (arith, h, K.short i q) }

  -- a peer before it has the address, or none has it
  pub sought : {i : ℕ} (r : Option ℕ) (b : Bool) → is_some r ≡ not b → AfterFind lens names w i (lent lens names w i) r → get_or lens i 0 ≤ w → Fresh lens names w i b
  sought {i} (Some j) true e F s = absurd (true≢false e)
  sought {i} (Some j) false e F s = record {
    yes = λ t. absurd (false≢true t);
    no = λ t n N q K.
        let f = F.is N (keeps_fewer i (omega arith) K) in
        omega (arith, f.0, K.distinct j i (omega (arith, f.0)) q (f.1 ∙ part_taken names (i * w) (get_or lens i 0) ∙ K.is i q));
  }
  sought {i} None false e F s = absurd (false≢true e)
  sought {i} None true e F s = record {
    yes = λ t K. (s, λ j q d. F.is (name_at lens names w) K j q (d ∙ sym (part_taken names (i * w) (get_or lens i 0))));
    no = λ t. absurd (true≢false t);
  }

  -- ---- all of them

  pub none_kept : 0 < w → Keeps lens names w 0 (name_at lens names w)
  none_kept h = record {
    wide = h;
    fits_lens = omega arith;
    fits_names = omega arith;
    short = λ i q. absurd (omega arith);
    is = λ i q. refl;
    distinct = λ i j q. absurd (omega arith);
  }

  pub one_more_kept : {i : ℕ} {r : Bool} → i < length lens → i * w + w ≤ length names → Fresh lens names w i r → r ≡ true
      → Keeps lens names w i (name_at lens names w) → Keeps lens names w (i + 1) (name_at lens names w)
  one_more_kept {i} h g F t K =
      let f = F.yes t K in
      record {
        wide = K.wide;
        fits_lens = omega arith;
        fits_names = omega (arith, ap (λ (x : ℕ). x * w) (add-one i), suc-mul i w);
        short = λ j q. ⊎_elim (λ p. K.short j p) (λ p. let e : j ≡ i = omega arith in omega (arith, f.0, ap (λ (x : ℕ). get_or lens x 0) e)) (lt_or_ge j i);
        is = λ j q. refl;
        distinct = λ x y p q e.
            ⊎_elim
            (λ s. ⊎_elim
            (λ t. K.distinct x y s t e)
            (λ t. let z : y ≡ i = omega arith in absurd (f.1 x s (e ∙ ap (name_at lens names w) z)))
            (lt_or_ge y i))
            (λ s.
            let z : x ≡ i = omega arith in
            ⊎_elim
            (λ t. absurd (f.1 y t (sym e ∙ ap (name_at lens names w) z)))
            (λ t. omega arith)
            (lt_or_ge y i))
            (lt_or_ge x i);
      }

  -- ---- the answers

  pub refuted : {n : ℕ} → ((N : ℕ → List ℕ) → Keeps lens names w n N → ⊥) → Valid lens names w n false
  refuted h = record { yes = λ e. absurd (false≢true e); no = λ e. h }

  pub kept : {i n : ℕ} → n ≤ i → Keeps lens names w i (name_at lens names w) → Valid lens names w n true
  kept {i} {n} q K = record { yes = λ e. (name_at lens names w, keeps_fewer n q K); no = λ e. absurd (true≢false e) }

  -- there are too few bytes for n addresses
  pub few_bytes : {n : ℕ} → length names / w < n → (N : ℕ → List ℕ) → Keeps lens names w n N → ⊥
  few_bytes h N K = omega (arith, h, (le-div_iff_mul-le K.wide).1 K.fits_names)
