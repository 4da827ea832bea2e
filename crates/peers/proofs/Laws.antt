-- The laws of addresses in lent memory: where a place lies, that all places fit, and that an address can join.
-- Assumes nothing.
use mathlib.Core.Path.{◌≡◌, refl, sym, ap, ap₂, ◌∙◌, subst}
use mathlib.Core.Logic.{⊎_elim}
use mathlib.Core.List.{List}
use Prim.Native.Nat.{ℕ, suc, ◌+◌, ◌*◌, ◌≤◌, ◌<◌}
use native.Mathlib.Nat.{suc-mul, mul-le-mul_right, le-div_iff_mul-le, le-min}
use native.Mathlib.Numerals.{add-one}
use native.Mathlib.Omega.{arith}
use lib.ListN.{length, get_or, set, length-set}
use lib.Seq.{get_or-set_same, get_or-set_other}
use borrow.Author.Tests.{ne_eqb, eq-eqb}
use Rattle.memory.specs.Bytes.{part, placed}
use Rattle.memory.proofs.Parts.{length_placed, placed_in, placed_before}
use Rattle.columns.proofs.Cases.{lt_or_ge}
use Rattle.peers.specs.Names.{Keeps, places, joined}

-- place i of r places of w bytes lies within the bytes that they take
pub place_fits : (i r w l : ℕ) → i < r → r * w ≤ l → i * w + w ≤ l
place_fits i r w l h q = omega (arith, suc-mul i w, mul-le-mul_right {m = suc i} {n = r} w h, q)

-- what is kept fits what is lent
pub keeps_places : {lens names : List ℕ} {w n : ℕ} {N : ℕ → List ℕ} → Keeps lens names w n N → n ≤ places lens names w
keeps_places K = le-min K.fits_lens ((le-div_iff_mul-le K.wide).1 K.fits_names)

module _ (lens names : List ℕ) (w n : ℕ) (N : ℕ → List ℕ) (a : List ℕ) (K : Keeps lens names w n N)
    (new : (j : ℕ) → j < n → N j ≡ a → ⊥) (short : length a ≤ w) (one : n < length lens) (room : n * w + w ≤ length names)
    (lens' names' : List ℕ) (put : lens' ≡ set lens n (length a)) (copied : names' ≡ placed names (n * w) a) where
  fits : n * w + length a ≤ length names
  fits = omega arith

  old : (i : ℕ) → i < n → joined n a N i ≡ N i
  old i h = rw (ne_eqb i n (λ e. omega arith)) refl

  last : joined n a N n ≡ a
  last = rw (eq-eqb n n refl) refl

  lens_old : (i : ℕ) → i < n → get_or lens' i 0 ≡ get_or lens i 0
  lens_old i h = ap (λ (l : List ℕ). get_or l i 0) put ∙ get_or-set_other lens n i (length a) 0 (λ e. omega arith)

  lens_last : get_or lens' n 0 ≡ length a
  lens_last = ap (λ (l : List ℕ). get_or l n 0) put ∙ get_or-set_same lens n (length a) 0 one

  name_old : (i : ℕ) → i < n → part names' (i * w) (get_or lens' i 0) ≡ N i
  name_old i h =
      let p : i * w + w ≤ n * w = place_fits i n w (n * w) h (omega arith) in
      ap₂ (λ (l : List ℕ) (k : ℕ). part l (i * w) k) copied (lens_old i h)
      ∙ placed_before names (n * w) a fits (i * w) (get_or lens i 0) (omega (arith, p, K.short i h))
      ∙ K.is i h

  name_last : part names' (n * w) (get_or lens' n 0) ≡ a
  name_last = ap₂ (λ (l : List ℕ) (k : ℕ). part l (n * w) k) copied lens_last ∙ placed_in names (n * w) a fits

  -- a place is an old one or the last
  among : {P : ℕ → Type 0} → ((i : ℕ) → i < n → P i) → P n → (i : ℕ) → i < n + 1 → P i
  among {P} before at i h =
      ⊎_elim (λ q. before i q) (λ q. let e : n ≡ i = omega arith in subst P e at) (lt_or_ge i n)

  pub keeps_joined : Keeps lens' names' w (n + 1) (joined n a N)
  keeps_joined = record {
    wide = K.wide;
    fits_lens = omega (arith, ap length put, length-set lens n (length a));
    fits_names = omega (arith, ap (λ (k : ℕ). k * w) (add-one n), suc-mul n w, ap length copied, length_placed names (n * w) a fits);
    short = among {P = λ i. get_or lens' i 0 ≤ w} (λ i h. omega (arith, lens_old i h, K.short i h)) (omega (arith, lens_last));
    is = among {P = λ i. part names' (i * w) (get_or lens' i 0) ≡ joined n a N i} (λ i h. name_old i h ∙ sym (old i h)) (name_last ∙ sym last);
    distinct = λ i j p q e. apart i j p q e;
  }
    where
      apart : (i j : ℕ) → i < n + 1 → j < n + 1 → joined n a N i ≡ joined n a N j → i ≡ j
      apart i j p q e =
          ⊎_elim
          (λ s. ⊎_elim
          (λ t. K.distinct i j s t (sym (old i s) ∙ e ∙ old j t))
          (λ t. let z : n ≡ j = omega arith in absurd (new i s (sym (old i s) ∙ e ∙ ap (joined n a N) (sym z) ∙ last)))
          (lt_or_ge j n))
          (λ s.
          let y : n ≡ i = omega arith in
          ⊎_elim
          (λ t. absurd (new j t (sym (old j t) ∙ sym e ∙ ap (joined n a N) (sym y) ∙ last)))
          (λ t. omega arith)
          (lt_or_ge j n))
          (lt_or_ge i n)
