-- The law by which callers go through a list that was read.
-- Assumes nothing.
use mathlib.Core.Path.{◌≡◌, refl, sym, ap, ◌∙◌, subst}
use mathlib.Core.List.{List, [], ◌∷◌}
use Rattle.std.specs.Prelude.{Option, Some, None}
use Prim.Native.Nat.{ℕ, suc, ◌+◌, ◌-◌, ◌<◌}
use native.Mathlib.Omega.{arith}
use lib.ListN.{length, drop}
use Rattle.memory.specs.Bytes.{part}
use Rattle.format.specs.Format.{Entry, encode}
use Rattle.format.specs.Place.{Stands, row, Rest}
use Rattle.format.specs.declared.Part.{Part}
use Rattle.format.proofs.Reading.{only}
use Rattle.format.proofs.Listing.{rest_head}
use Rattle.lists.specs.Answers.{ReadRow}

-- Going through a list that was read never refuses: as long as entries are left, the next one is there, and behind it is the rest
pub goes_on : (l : List Entry) {s : List ℕ} {at n low next : ℕ} → Rest s at n low l next → 0 < n → (r : Option (ℕ × Part)) → ReadRow s at r
    → (k : ℕ) × (p : Part) × (r ≡ Some (k, p)) × (l' : List Entry) × (l ≡ record { key = k; value = part s p.at p.len } ∷ l')
    × Rest s (p.at + p.len) (n - 1) (suc k) l' next
goes_on [] R some r A = absurd (omega (arith, R.count))
goes_on (e ∷ l) {s} {at} {n} {low} {next} R some None A =
    let one : n ≡ suc (n - 1) = omega arith in
    let u = rest_head (subst (λ (x : ℕ). Rest s at x low (e ∷ l) next) one R) in
    absurd (A.is.no (e.key, e.value) u.1.good (drop u.0 s) u.1.is)
goes_on (e ∷ l) {s} {at} {n} {low} {next} R some (Some (k, p)) A =
    let one : n ≡ suc (n - 1) = omega arith in
    let u = rest_head (subst (λ (x : ℕ). Rest s at x low (e ∷ l) next) one R) in
    let st : Stands row s at (k, part s p.at p.len) (p.at + p.len) = A.is.1 in
    let same = only st (e.key, e.value) u.1.good (drop u.0 s) u.1.is in
    let key : e.key ≡ k = ap (λ (x : ℕ × List ℕ). x.0) same.0 in
    let value : e.value ≡ part s p.at p.len = ap (λ (x : ℕ × List ℕ). x.1) same.0 in
    let place : u.0 ≡ p.at + p.len =
    u.1.long ∙ ap (λ (x : ℕ × List ℕ). at + length (encode row x)) same.0 ∙ sym st.long in (
      k,
      p,
      refl,
      l,
      (λ i. record { key = key i; value = value i } ∷ l),
      subst (λ (x : ℕ). Rest s x (n - 1) (suc k) l next) place (subst (λ (x : ℕ). Rest s u.0 (n - 1) (suc x) l next) key u.2),
    )
