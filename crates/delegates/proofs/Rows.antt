-- How a list that was read is written down as columns, one entry after the other.
-- Assumes nothing.
use mathlib.Core.Path.{◌≡◌, refl, sym, ap, ◌∙◌, subst}
use mathlib.Core.Logic.{⊎_elim}
use mathlib.Core.Bool.{true, false}
use mathlib.Core.List.{List, [], ◌∷◌}
use Prim.Native.Nat.{ℕ, suc, ◌+◌, ◌-◌, ◌≤◌, ◌<◌}
use native.Mathlib.Omega.{arith}
use lib.ListN.{length, get_or, set, drop}
use lib.Seq.{get_or-set_same, get_or-set_other, get_or-drop, drop-drop}
use borrow.Author.Tests.{lt-ltb, le-ltb}
use Rattle.limits.specs.Limits.{value_max}
use Rattle.columns.proofs.Cases.{eq_or_ne}
use Rattle.memory.specs.Bytes.{part}
use Rattle.memory.proofs.Parts.{length_part}
use Rattle.format.specs.Format.{Entry}
use Rattle.format.specs.Place.{listed, Rest}
use Rattle.format.specs.declared.Part.{Part}
use Rattle.std.specs.Prelude.{Some, None}
use Rattle.lists.specs.Answers.{ReadRow}
use Rattle.lists.proofs.Laws.{goes_on}
use Rattle.protocol.specs.Process.{any_long}
use Rattle.delegates.specs.Answers.{entry_at, Row, Filled}

-- ---- the next entry of a list

module _ {s : List ℕ} {at n low next : ℕ} (l : List Entry) (R : Rest s at n low l next) (some : 0 < n) where
  next_row : (k : ℕ) (p : Part) → ReadRow s at (Some (k, p))
      → (l' : List Entry) × (l ≡ record { key = k; value = part s p.at p.len } ∷ l') × Rest s (p.at + p.len) (n - 1) (suc k) l' next
  next_row k p A =
      let u = goes_on l R some (Some (k, p)) A in
      let e : ◌≡◌ {A = ℕ × Part} (u.0, u.1) (k, p) = cc in
      subst
      (λ (q : ℕ × Part). (l' : List Entry) × (l ≡ record { key = q.0; value = part s q.1.at q.1.len } ∷ l') × Rest s (q.1.at + q.1.len) (n - 1) (suc q.0) l' next)
      e
      (u.3, u.4, u.5)

  next_there : ReadRow s at None → ⊥
  next_there A = let u = goes_on l R some None A in cc

-- ---- the first i entries of the list from place `from` on are written down, and the others stand from place `at` on

pub record Going (s : List ℕ) (from m at i : ℕ) (ks ats ls : List ℕ) : Type 0 where
  pub is : (next : ℕ) → Rest s from m 0 (listed s from m) next
      → (low : ℕ) × Rest s at (m - i) low (drop i (listed s from m)) next × (any_long (listed s from m) ≡ any_long (drop i (listed s from m)))
      × ((x : ℕ) → x < i → Row s (listed s from m) ks ats ls x)

pub going_start : (s : List ℕ) (from m : ℕ) (ks ats ls : List ℕ) → Going s from m from 0 ks ats ls
going_start s from m ks ats ls = record {
  is = λ next R.
      let e : m ≡ m - 0 = omega arith in
      (0, subst (λ (n : ℕ). Rest s from n 0 (listed s from m) next) e R, refl, λ x q. absurd (omega arith));
}

module _ {s : List ℕ} {from m at i : ℕ} {ks ats ls : List ℕ} (G : Going s from m at i ks ats ls) (q : i < m) where
  -- a list that was read has its next entry
  pub going_there : (next : ℕ) → Rest s from m 0 (listed s from m) next → ReadRow s at None → ⊥
  going_there next R A = let g = G.is next R in next_there (drop i (listed s from m)) g.1 (omega arith) A

  module _ {k : ℕ} {p : Part} (A : ReadRow s at (Some (k, p))) where
    abbrev entry : Entry
    entry = record { key = k; value = part s p.at p.len }

    length_is : length entry.value ≡ p.len
    length_is = length_part s p.at p.len A.is.1.within

    -- its value may be too long
    pub going_long : value_max < p.len → (next : ℕ) → Rest s from m 0 (listed s from m) next → any_long (listed s from m) ≡ true
    going_long h next R =
        let g = G.is next R in
        let u = next_row (drop i (listed s from m)) g.1 (omega arith) k p A in
        rw (g.2, u.1, length_is, lt-ltb value_max p.len h) refl

    -- else it is written down
    module _ (short : p.len ≤ value_max) (fk : i < length ks) (fa : i < length ats) (fl : i < length ls) where
      row_here : entry_at (listed s from m) i ≡ entry → Row s (listed s from m) (set ks i k) (set ats i p.at) (set ls i p.len) i
      row_here e =
          let ea : get_or (set ats i p.at) i 0 ≡ p.at = get_or-set_same ats i p.at 0 fa in
          let el : get_or (set ls i p.len) i 0 ≡ p.len = get_or-set_same ls i p.len 0 fl in
          record {
            key = get_or-set_same ks i k 0 fk ∙ ap (λ (x : Entry). x.key) (sym e);
            value = rw (ea, el) (ap (λ (x : Entry). x.value) (sym e));
            inside = omega (arith, ea, el, A.is.1.within);
            short = omega (arith, el, short);
          }

      row_before : (x : ℕ) → (x ≡ i → ⊥) → Row s (listed s from m) ks ats ls x
          → Row s (listed s from m) (set ks i k) (set ats i p.at) (set ls i p.len) x
      row_before x d r =
          let ea : get_or (set ats i p.at) x 0 ≡ get_or ats x 0 = get_or-set_other ats i x p.at 0 d in
          let el : get_or (set ls i p.len) x 0 ≡ get_or ls x 0 = get_or-set_other ls i x p.len 0 d in
          record {
            key = get_or-set_other ks i x k 0 d ∙ r.key;
            value = rw (ea, el) r.value;
            inside = omega (arith, ea, el, r.inside);
            short = omega (arith, el, r.short);
          }

      pub going_more : Going s from m (p.at + p.len) (i + 1) (set ks i k) (set ats i p.at) (set ls i p.len)
      going_more = record {
        is = λ next R.
            let es : List Entry = listed s from m in
            let g = G.is next R in
            let u = next_row (drop i es) g.1 (omega arith) k p A in
            let rest : drop (i + 1) es ≡ u.0 = sym (drop-drop 1 i es) ∙ ap (drop 1) u.1 in
            let less : m - i - 1 ≡ m - (i + 1) = omega arith in
            let z : i + 0 ≡ i = omega arith in
            let here : entry_at es i ≡ entry = ap (entry_at es) (sym z) ∙ sym (get_or-drop i es 0 _) ∙ rw u.1 refl in (
              suc k,
              rw (rest, ← less) u.2,
              g.2 ∙ rw (u.1, length_is, le-ltb value_max p.len short, rest) refl,
              λ x r.
                  ⊎_elim (λ (e : x ≡ i). rw e (row_here here)) (λ d. row_before x d (g.3 x (omega (arith, d)))) (eq_or_ne x i),
            );
      }

none_long : (l : List Entry) → length l ≡ 0 → any_long l ≡ false
none_long [] e = refl
none_long (x ∷ l) e = absurd (omega arith)

-- .. until all are written down
pub going_end : {s : List ℕ} {from m at i : ℕ} {ks ats ls : List ℕ} → Going s from m at i ks ats ls → i ≡ m → m ≤ length ks → m ≤ length ats
    → m ≤ length ls → (next : ℕ) → Rest s from m 0 (listed s from m) next
    → (any_long (listed s from m) ≡ false) × Filled s (listed s from m) ks ats ls
going_end {s} {from} {m} {at} {i} {ks} {ats} {ls} G e fk fa fl next R =
    let g = G.is next R in (
      g.2 ∙ none_long (drop i (listed s from m)) (omega (arith, g.1.count)),
      record {
        fits_keys = omega (arith, R.count);
        fits_ats = omega (arith, R.count);
        fits_lens = omega (arith, R.count);
        each = λ x q. g.3 x (omega (arith, R.count));
      },
    )
