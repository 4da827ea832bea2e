-- The laws of going through all waiting messages: a message is found by its peer and number, one more place written down is one more letter, and
-- a list as long as there are places has room for all.
-- Assumes nothing.
use mathlib.Core.Path.{◌≡◌, refl, sym, ap, ap₂, ◌∙◌}
use mathlib.Core.List.{List, [], ◌∷◌, ◌++◌, map, map-append, append_assoc}
use Prim.Native.Nat.{ℕ, zero, suc, ◌+◌, ◌≤◌, ◌<◌}
use native.Mathlib.Omega.{arith}
use native.Mathlib.Numerals.{add-one}
use lib.ListN.{length, take, get_or, set, length-append, length-map}
use lib.Seq.{take-suc, take-suc-set, get_or-set_same, get_or-set_other, length-take-le}
use borrow.Author.Count.{below_more}
use Rattle.delivery.specs.Post.{Post, total}
use Rattle.delivery.specs.Memory.{capacity, mark_at, number_at, datagram_at, Keeps, Standing}
use Rattle.delivery.proofs.Counting.{keeps_fits}
use Rattle.std.specs.Prelude.{Err}
use Rattle.limits.specs.declared.NoRoom.{NoRoom}
use Rattle.resending.specs.Answers.{Letter, letter_at, letter_to, letters_to, letters, named, Within, AfterAll}

-- ---- the place of a message

module _ {counts places mail : List ℕ} {size n : ℕ} {P : Post} (K : Keeps counts places mail size n P) {peer x j : ℕ} (h : peer < n)
    (q : j < length (P.waiting peer)) (e : x ≡ suc (P.acknowledged peer + j)) where
  -- the place with its peer and number is its place
  pub stands : {p : ℕ} → p < capacity places → mark_at places p ≡ suc peer → number_at places p ≡ x
      → Standing places mail size p peer x (get_or (P.waiting peer) j [])
  stands {p} w m z =
      let s = K.holding.here peer j h q in
      let same : s.0 ≡ p = K.holding.apart s.0 p s.1 w (omega (arith, s.2)) (s.2 ∙ sym m) (s.3 ∙ sym e ∙ sym z) in
      record { within = w; mark = m; number = z; is = ap (datagram_at places mail size) (sym same) ∙ s.4 }

  -- there is one
  pub somewhere : ((p : ℕ) → p < capacity places → number_at places p ≡ x → mark_at places p ≡ suc peer → ⊥) → ⊥
  somewhere f =
      let s = K.holding.here peer j h q in
      f s.0 s.1 (s.3 ∙ sym e) s.2

-- ---- what is written down

-- one more place
pub within_more : (places out : List ℕ) (at p : ℕ) → at < length out → p < capacity places → Within places at out → Within places (at + 1) (set out at p)
within_more places out at p h w f =
    below_more (λ k. get_or (set out at p) k 0 < capacity places) at
    (λ k b. rw (get_or-set_other out at k p 0 (λ e. omega arith)) (f k b))
    (rw (get_or-set_same out at p 0 h) w)

length_letters : (n : ℕ) (P : Post) → length (letters n P) ≡ total n P
length_letters zero P = refl
length_letters (suc n) P =
    omega (arith, length-append (letters n P) (letters_to P n), length-map (P.waiting n) (letter_to n), length_letters n P)

module _ (places mail out : List ℕ) (size at : ℕ) where
  -- one more letter
  pub letter_more : (p i x j : ℕ) (front : List Letter) (l : List (List ℕ)) → at < length out → j < length l
      → Standing places mail size p i x (get_or l j []) → named places mail size at out ≡ front ++ map (letter_to i) (take j l)
      → named places mail size (at + 1) (set out at p) ≡ front ++ map (letter_to i) (take (suc j) l)
  letter_more p i x j front l h q S e =
      let one : letter_at places mail size p ≡ letter_to i (get_or l j []) = ap₂ (λ (m : ℕ) (b : List ℕ). record { mark = m; bytes = b }) S.mark S.is in
      ap (λ (k : ℕ). named places mail size k (set out at p)) (add-one at)
      ∙ ap (map (letter_at places mail size)) (take-suc-set out at p h)
      ∙ map-append (letter_at places mail size) (take at out) (p ∷ [])
      ∙ ap₂ (λ (a : List Letter) (b : Letter). a ++ (b ∷ [])) e one
      ∙ append_assoc front (map (letter_to i) (take j l)) (letter_to i (get_or l j []) ∷ [])
      ∙ ap (λ (a : List Letter). front ++ a) (sym (map-append (letter_to i) (take j l) (get_or l j [] ∷ [])))
      ∙ ap (λ (a : List (List ℕ)). front ++ map (letter_to i) a) (sym (take-suc l j [] q))

  -- so many were written down
  pub written : (i : ℕ) (P : Post) → at ≤ length out → named places mail size at out ≡ letters i P → at ≡ total i P
  written i P h e =
      omega (arith, length_letters i P, ap length e, length-map (take at out) (letter_at places mail size), length-take-le at out h)

-- ---- room for all

-- a list as long as there are places is long enough
pub all_fits : {counts places mail out out' : List ℕ} {size n : ℕ} {P : Post} {e : NoRoom} → Keeps counts places mail size n P
    → capacity places ≤ length out → AfterAll counts places n out (Err e) out' → ⊥
all_fits {mail = mail} {size = size} {P = P} K h A =
    omega (arith, keeps_fits K, A.is mail size P K)
