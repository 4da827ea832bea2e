-- Words that are written one after the other from the front: the length stays, and the words hold the numbers.
-- Assumes nothing.
use mathlib.Core.Path.{◌≡◌, refl, ◌∙◌}
use mathlib.Core.List.{List, [], ◌∷◌}
use Prim.Native.Nat.{ℕ, suc, ◌≤◌, ◌<◌}
use native.Mathlib.Omega.{arith}
use lib.ListN.{length, get_or, set, length-set}
use Rattle.hosts.specs.declared.State.{State}
use Rattle.numbers.specs.Words.{words, place_word, state_of}

-- the values are written from word i on
abbrev pub put : List ℕ → ℕ → List ℕ → List ℕ
put l i [] = l
put l i (v ∷ vs) = put (set l i v) (suc i) vs

pub put_length : (l : List ℕ) (i : ℕ) (vs : List ℕ) → length (put l i vs) ≡ length l
put_length l i [] = refl
put_length l i (v ∷ vs) = put_length (set l i v) (suc i) vs ∙ length-set l i v

-- a word that was there still is
pub still : (l vs : List ℕ) (n : ℕ) → n < length l → n < length (put l 0 vs)
still l vs n h = let e = put_length l 0 vs in omega (arith, h, e)

-- all numbers and the place
abbrev pub all : State → ℕ → List ℕ
all k p = k.me ∷ k.hosts ∷ k.peers ∷ k.width ∷ k.size ∷ k.bounds ∷ k.entries ∷ k.len ∷ k.from ∷ k.transfers ∷ k.turns ∷ p ∷ []

-- a list that is long enough is taken apart, so that writing and reading compute
pub stored : (l : List ℕ) (k : State) (p : ℕ) → words ≤ length l
    → (state_of (put l 0 (all k p)) ≡ k) × (get_or (put l 0 (all k p)) place_word 0 ≡ p)
stored [] k p h = absurd (omega (arith, h))
stored (x0 ∷ []) k p h = absurd (omega (arith, h))
stored (x0 ∷ x1 ∷ []) k p h = absurd (omega (arith, h))
stored (x0 ∷ x1 ∷ x2 ∷ []) k p h = absurd (omega (arith, h))
stored (x0 ∷ x1 ∷ x2 ∷ x3 ∷ []) k p h = absurd (omega (arith, h))
stored (x0 ∷ x1 ∷ x2 ∷ x3 ∷ x4 ∷ []) k p h = absurd (omega (arith, h))
stored (x0 ∷ x1 ∷ x2 ∷ x3 ∷ x4 ∷ x5 ∷ []) k p h = absurd (omega (arith, h))
stored (x0 ∷ x1 ∷ x2 ∷ x3 ∷ x4 ∷ x5 ∷ x6 ∷ []) k p h = absurd (omega (arith, h))
stored (x0 ∷ x1 ∷ x2 ∷ x3 ∷ x4 ∷ x5 ∷ x6 ∷ x7 ∷ []) k p h = absurd (omega (arith, h))
stored (x0 ∷ x1 ∷ x2 ∷ x3 ∷ x4 ∷ x5 ∷ x6 ∷ x7 ∷ x8 ∷ []) k p h = absurd (omega (arith, h))
stored (x0 ∷ x1 ∷ x2 ∷ x3 ∷ x4 ∷ x5 ∷ x6 ∷ x7 ∷ x8 ∷ x9 ∷ []) k p h = absurd (omega (arith, h))
stored (x0 ∷ x1 ∷ x2 ∷ x3 ∷ x4 ∷ x5 ∷ x6 ∷ x7 ∷ x8 ∷ x9 ∷ x10 ∷ []) k p h = absurd (omega (arith, h))
stored (x0 ∷ x1 ∷ x2 ∷ x3 ∷ x4 ∷ x5 ∷ x6 ∷ x7 ∷ x8 ∷ x9 ∷ x10 ∷ x11 ∷ rest) k p h = (refl, refl)
