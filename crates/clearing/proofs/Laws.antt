-- The laws of a pass over the places: what is cleared so far, and that all is at its end.
-- Assumes nothing.
use mathlib.Core.Path.{◌≡◌, refl, sym, ◌∙◌, subst}
use mathlib.Core.Logic.{⊎_elim}
use mathlib.Core.List.{List}
use Prim.Native.Nat.{ℕ, ◌+◌, ◌*◌, ◌≤◌, ◌<◌}
use native.Mathlib.Omega.{arith}
use lib.ListN.{length, set, length-set}
use lib.Seq.{get_or-set_same, get_or-set_other}
use Rattle.columns.proofs.Cases.{lt_or_ge}
use Rattle.delivery.specs.Memory.{capacity, mark_at, number_at, length_at}
use Rattle.clearing.specs.Answers.{Cleared}

-- the first p places are cleared, the others are as they were
pub record Passed (places : List ℕ) (mark x p : ℕ) (places' : List ℕ) : Type 0 where
  pub long : length places' ≡ length places
  pub gone : (q : ℕ) → q < p → mark_at places q ≡ mark → number_at places q ≤ x → mark_at places' q ≡ 0
  pub other : (q : ℕ) → q < p → (mark_at places q ≡ mark → x < number_at places q) → mark_at places' q ≡ mark_at places q
  pub rest : (q : ℕ) → p ≤ q → mark_at places' q ≡ mark_at places q
  pub numbers : (q : ℕ) → number_at places' q ≡ number_at places q
  pub lengths : (q : ℕ) → length_at places' q ≡ length_at places q

pub passed_none : (places : List ℕ) (mark x : ℕ) → Passed places mark x 0 places
passed_none places mark x = record {
  long = refl;
  gone = λ q h. absurd (omega arith);
  other = λ q h. absurd (omega arith);
  rest = λ q h. refl;
  numbers = λ q. refl;
  lengths = λ q. refl;
}

pub passed_all : {places : List ℕ} {mark x p : ℕ} {places' : List ℕ} → Passed places mark x p places' → capacity places ≤ p → Cleared places mark x places'
passed_all C l = record {
  long = C.long;
  gone = λ q h. C.gone q (omega (arith, h, l));
  other = λ q h. C.other q (omega (arith, h, l));
  numbers = λ q h. C.numbers q;
  lengths = λ q h. C.lengths q;
}

module _ {places : List ℕ} {mark x p : ℕ} {places' : List ℕ} (C : Passed places mark x p places') (within : p < capacity places) where
  -- a place is before p, or it is p
  among : {Q : ℕ → Type 0} → ((q : ℕ) → q < p → Q q) → Q p → (q : ℕ) → q < p + 1 → Q q
  among {Q} before at q h = ⊎_elim (λ l. before q l) (λ l. let e : p ≡ q = omega arith in subst Q e at) (lt_or_ge q p)

  -- the next place is left alone
  pub passed_kept : (mark_at places' p ≡ mark → x < number_at places' p) → Passed places mark x (p + 1) places'
  passed_kept u = record {
    long = C.long;
    gone = among C.gone (λ m l. absurd (omega (arith, l, C.numbers p, u (C.rest p (omega arith) ∙ m))));
    other = among C.other (λ v. C.rest p (omega arith));
    rest = λ q h. C.rest q (omega arith);
    numbers = C.numbers;
    lengths = C.lengths;
  }

  -- the next place is freed
  pub passed_freed : mark_at places' p ≡ mark → number_at places' p ≤ x → Passed places mark x (p + 1) (set places' (p * 3) 0)
  passed_freed m l = record {
    long = length-set places' (p * 3) 0 ∙ C.long;
    gone = among (λ q h e f. get_or-set_other places' (p * 3) (q * 3) 0 0 (λ d. omega arith) ∙ C.gone q h e f)
        (λ e f. get_or-set_same places' (p * 3) 0 0 (omega (arith, within, C.long)));
    other = among (λ q h u. get_or-set_other places' (p * 3) (q * 3) 0 0 (λ d. omega arith) ∙ C.other q h u)
        (λ u. absurd (omega (arith, u (sym (C.rest p (omega arith)) ∙ m), C.numbers p)));
    rest = λ q h. get_or-set_other places' (p * 3) (q * 3) 0 0 (λ d. omega arith) ∙ C.rest q (omega arith);
    numbers = λ q. get_or-set_other places' (p * 3) (q * 3 + 1) 0 0 (λ d. omega arith) ∙ C.numbers q;
    lengths = λ q. get_or-set_other places' (p * 3) (q * 3 + 2) 0 0 (λ d. omega arith) ∙ C.lengths q;
  }
