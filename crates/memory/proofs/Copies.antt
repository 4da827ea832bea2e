-- The laws of what is copied, or is refused because it does not fit.
-- Assumes nothing.
use mathlib.Core.Path.{◌≡◌, refl, sym, ap, ◌∙◌, subst}
use mathlib.Core.Bool.{Bool, true, false}
use mathlib.Core.List.{List, ◌++◌}
use Prim.Native.Nat.{ℕ, ◌+◌, ◌≤◌, ◌<◌}
use native.Mathlib.Omega.{arith}
use lib.ListN.{length, length-append}
use Rattle.memory.specs.Bytes.{placed, Copied}
use Rattle.memory.proofs.Parts.{length_placed, placed_then}

pub copied_yes : (s d : List ℕ) (at : ℕ) (d' : List ℕ) → at + length s ≤ length d → d' ≡ placed d at s → Copied s d at true d'
copied_yes s d at d' h e = record { done = λ q. (refl, e); refused = λ q. absurd (omega arith) }

pub copied_no : (s d : List ℕ) (at : ℕ) → length d < at + length s → Copied s d at false d
copied_no s d at h = record { done = λ q. absurd (omega arith); refused = λ q. (refl, refl) }

-- one string and then another behind it
pub copied_then : (a b d d₁ d₂ : List ℕ) (at q : ℕ) {r r' : Bool} → q ≡ at + length a → at + (length a + length b) ≤ length d
    → Copied a d at r d₁ → Copied b d₁ q r' d₂ → Copied (a ++ b) d at r' d₂
copied_then a b d d₁ d₂ at q {r} {r'} e h x y =
    let fa : at + length a ≤ length d = omega arith in
    let u : d₁ ≡ placed d at a = (x.done fa).1 in
    let l : length d₁ ≡ length d = ap length u ∙ length_placed d at a fa in
    let z = y.done (omega (arith, l)) in
    let p : d₂ ≡ placed d at (a ++ b) =
    z.1 ∙ ap (λ (v : List ℕ). placed v q b) u ∙ ap (λ (k : ℕ). placed (placed d at a) k b) e ∙ placed_then d at a b h in
    let c = copied_yes (a ++ b) d at d₂ (omega (arith, length-append a b)) p in
    subst (λ (t : Bool). Copied (a ++ b) d at t d₂) (sym z.0) c

-- what fits leaves the length as it was
pub copied_length : (s d : List ℕ) (at : ℕ) (d' : List ℕ) {r : Bool} → at + length s ≤ length d → Copied s d at r d' → length d' ≡ length d
copied_length s d at d' h x = ap length (x.done h).1 ∙ length_placed d at s h
