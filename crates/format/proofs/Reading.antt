-- The laws by which a reader goes: what stands at a place follows from what stands in its parts, and a part that is lacking means that the
-- whole is. That a reader refuses only what is written in no way comes from `clear` alone.
-- Assumes nothing.
use mathlib.Core.Path.{◌≡◌, refl, sym, ap, ◌∙◌, subst}
use mathlib.Core.List.{List, ◌∷◌, ◌++◌, append_assoc, head-eq_of_cons-eq, tail-eq_of_cons-eq}
use mathlib.Core.Option.{none, some}
use Prim.Native.Nat.{ℕ, ◌+◌, ◌≤◌, ◌<◌}
use native.Mathlib.Omega.{arith}
use native.Mathlib.Numerals.{add-one}
use lib.ListN.{length, take, drop, get_or, length-append, length-drop, take-append-drop}
use lib.Seq.{drop-cons, drop-drop}
use Rattle.memory.specs.Bytes.{part}
use Rattle.memory.proofs.Parts.{length_part}
use Rattle.format.specs.Number.{base, width, numbers, digits, worth}
use Rattle.format.specs.Format.{Format, number, string, maybe, pair, choice, Of, counted, encode, Good}
use Rattle.format.specs.Place.{Stands, Lacks}
use Rattle.format.proofs.Numbers.{length_digits, worth_small, digits_worth}
use Rattle.format.proofs.Clear.{clear}

-- what stands at a place is the only value that does, and what follows it is told
pub only : {f : Format} {s : List ℕ} {at next : ℕ} {v : Of f} → Stands f s at v next
    → (w : Of f) → Good f w → (rest : List ℕ) → drop at s ≡ encode f w ++ rest → (w ≡ v) × (rest ≡ drop next s)
only {f} {s} {at} {next} {v} k w g rest e = clear f w v g k.good rest (drop next s) (sym e ∙ k.is)

-- ---- numbers

module _ (s : List ℕ) (at : ℕ) where
  -- the bytes up to place `at + n` are there
  cut : (n : ℕ) → drop at s ≡ take n (drop at s) ++ drop (at + n) s
  cut n = sym (ap (λ (l : List ℕ). take n (drop at s) ++ l) (sym (drop-drop n at s)) ∙ take-append-drop n (drop at s))

  pub number_found : ((i : ℕ) → get_or s i 0 < base) → at + width ≤ length s → Stands number s at (worth s at width) (at + width)
  number_found b h = record {
    good = worth_small s b at width;
    long = ap (λ (k : ℕ). at + k) (sym (length_digits width (worth s at width)));
    within = h;
    is = cut width ∙ ap (λ (l : List ℕ). l ++ drop (at + width) s) (digits_worth s b at width h);
  }

  pub number_short : length s < at + width → Lacks number s at
  number_short h = record {
    no = λ v g rest e. omega (arith, length-drop at s, ap length e, length-append (digits width v) rest, length_digits width v);
  }

  -- ---- byte strings

  -- the number says the length, and the bytes are there
  pub string_found : (limit : ℕ) {n : ℕ} → Stands number s at n (at + width) → n < limit → at + width + n ≤ length s
      → Stands (string limit) s at (part s (at + width) n) (at + width + n)
  string_found limit {n} k p h =
      let e : length (part s (at + width) n) ≡ n = length_part s (at + width) n h in
      record {
        good = (subst (λ (m : ℕ). m < limit) (sym e) p, subst (λ (m : ℕ). m < numbers) (sym e) k.good);
        long = omega (
          arith,
          e,
          length-append (digits width (length (part s (at + width) n))) (part s (at + width) n),
          length_digits width (length (part s (at + width) n)),
        );
        within = h;
        is =
            k.is
            ∙ ap (λ (l : List ℕ). digits width n ++ l)
            (sym (ap (λ (l : List ℕ). part s (at + width) n ++ l) (sym (drop-drop n (at + width) s)) ∙ take-append-drop n (drop (at + width) s)))
            ∙ sym (append_assoc (digits width n) (part s (at + width) n) (drop (at + width + n) s))
            ∙ ap (λ (m : ℕ). (digits width m ++ part s (at + width) n) ++ drop (at + width + n) s) (sym e);
      }

  pub string_unnumbered : (limit : ℕ) → Lacks number s at → Lacks (string limit) s at
  string_unnumbered limit k = record {
    no = λ v g rest e. k.no (length v) g.1 (v ++ rest) (e ∙ append_assoc (digits width (length v)) v rest);
  }

  -- its length is the number that stands there
  measured : (limit : ℕ) {n : ℕ} → Stands number s at n (at + width) → (v : List ℕ) → Good (string limit) v → (rest : List ℕ)
      → drop at s ≡ counted v ++ rest → (length v ≡ n) × (v ++ rest ≡ drop (at + width) s)
  measured limit k v g rest e = only k (length v) g.1 (v ++ rest) (e ∙ append_assoc (digits width (length v)) v rest)

  pub string_long : (limit : ℕ) {n : ℕ} → Stands number s at n (at + width) → limit ≤ n → Lacks (string limit) s at
  string_long limit k p = record { no = λ v g rest e. omega (arith, g.0, (measured limit k v g rest e).0) }

  pub string_short : (limit : ℕ) {n : ℕ} → Stands number s at n (at + width) → length s < at + width + n → Lacks (string limit) s at
  string_short limit k h = record {
    no = λ v g rest e.
        let u = measured limit k v g rest e in
        omega (arith, u.0, ap length u.1, length-append v rest, length-drop (at + width) s, k.within);
  }

  -- ---- .. with a limit, once it was read without

  pub string_limited : {limit : ℕ} (from n : ℕ) → Stands (string numbers) s at (part s from n) (from + n) → n < limit
      → Stands (string limit) s at (part s from n) (from + n)
  string_limited {limit} from n k p = record {
    good = (subst (λ (m : ℕ). m < limit) (sym (length_part s from n k.within)) p, k.good.1);
    long = k.long;
    within = k.within;
    is = k.is;
  }

  pub string_over : {limit : ℕ} (from n : ℕ) → Stands (string numbers) s at (part s from n) (from + n) → limit ≤ n → Lacks (string limit) s at
  string_over {limit} from n k p = record {
    no = λ v g rest q. omega (arith, g.0, ap length (only k v (g.1, g.1) rest q).0, length_part s from n k.within);
  }

  pub string_unlimited : {limit : ℕ} → Lacks (string numbers) s at → Lacks (string limit) s at
  string_unlimited {limit} k = record { no = λ v g rest q. k.no v (g.1, g.1) rest q }

  -- ---- one part after the other

  pub pair_found : {f g : Format} {v : Of f} {w : Of g} {mid next : ℕ} → Stands f s at v mid → Stands g s mid w next
      → Stands (pair f g) s at (v, w) next
  pair_found {f} {g} {v} {w} {mid} {next} a b = record {
    good = (a.good, b.good);
    long = omega (arith, a.long, b.long, length-append (encode f v) (encode g w));
    within = b.within;
    is = a.is ∙ ap (λ (l : List ℕ). encode f v ++ l) b.is ∙ sym (append_assoc (encode f v) (encode g w) (drop next s));
  }

  pub pair_first : {f g : Format} → Lacks f s at → Lacks (pair f g) s at
  pair_first {f} {g} k = record {
    no = λ v p rest e. k.no v.0 p.0 (encode g v.1 ++ rest) (e ∙ append_assoc (encode f v.0) (encode g v.1) rest);
  }

  pub pair_second : {f g : Format} {w : Of f} {mid : ℕ} → Stands f s at w mid → Lacks g s mid → Lacks (pair f g) s at
  pair_second {f} {g} a k = record {
    no = λ v p rest e.
        let u = only a v.0 p.0 (encode g v.1 ++ rest) (e ∙ append_assoc (encode f v.0) (encode g v.1) rest) in
        k.no v.1 p.1 rest (sym u.1);
  }

  -- ---- what a byte decides

  -- the bytes from a place on: one, and those behind it
  split : at < length s → drop at s ≡ get_or s at 0 ∷ drop (at + 1) s
  split h = subst (λ (n : ℕ). drop at s ≡ get_or s at 0 ∷ drop n s) (sym (add-one at)) (drop-cons s at 0 h)

  -- the byte that an encoding starts with
  starts : (x : ℕ) (l : List ℕ) → drop at s ≡ x ∷ l → (at < length s) × (get_or s at 0 ≡ x) × (drop (at + 1) s ≡ l)
  starts x l e =
      let h : at < length s = omega (arith, length-drop at s, ap length e) in
      let u : get_or s at 0 ∷ drop (at + 1) s ≡ x ∷ l = sym (split h) ∙ e in
      (h, head-eq_of_cons-eq u, tail-eq_of_cons-eq u)

  headed : {x : ℕ} {l : List ℕ} → at < length s → get_or s at 0 ≡ x → drop (at + 1) s ≡ l → drop at s ≡ x ∷ l
  headed {x} {l} h p e = split h ∙ ap (λ (y : ℕ). y ∷ drop (at + 1) s) p ∙ ap (λ (m : List ℕ). x ∷ m) e

  pub maybe_none : {f : Format} → at < length s → get_or s at 0 ≡ 0 → Stands (maybe f) s at none (at + 1)
  maybe_none h p = record { good = tt; long = omega arith; within = omega arith; is = headed h p refl }

  pub maybe_some : {f : Format} {v : Of f} {next : ℕ} → at < length s → get_or s at 0 ≡ 1 → Stands f s (at + 1) v next
      → Stands (maybe f) s at (some v) next
  maybe_some h p k = record { good = k.good; long = omega (arith, k.long); within = k.within; is = headed h p k.is }

  -- no value of a maybe starts with another byte than 0 and 1, or with 1 and no value behind it
  maybe_no : {f : Format} → (at < length s → get_or s at 0 ≡ 0 → ⊥) → (at < length s → get_or s at 0 ≡ 1 → Lacks f s (at + 1)) → (v : Of (maybe f))
      → Good (maybe f) v → (rest : List ℕ) → drop at s ≡ encode (maybe f) v ++ rest → ⊥
  maybe_no p q none g rest e = let u = starts 0 rest e in p u.0 u.1
  maybe_no {f} p q (some v) g rest e = let u = starts 1 (encode f v ++ rest) e in (q u.0 u.1).no v g rest u.2

  pub maybe_empty : {f : Format} → length s ≤ at → Lacks (maybe f) s at
  maybe_empty {f} h = record { no = maybe_no {f = f} (λ l p. absurd (omega arith)) (λ l p. absurd (omega arith)) }

  pub maybe_other : {f : Format} → (get_or s at 0 ≡ 0 → ⊥) → (get_or s at 0 ≡ 1 → ⊥) → Lacks (maybe f) s at
  maybe_other {f} p q = record { no = maybe_no {f = f} (λ l e. p e) (λ l e. absurd (q e)) }

  pub maybe_lacks : {f : Format} → get_or s at 0 ≡ 1 → Lacks f s (at + 1) → Lacks (maybe f) s at
  maybe_lacks {f} p k = record { no = maybe_no {f = f} (λ l e. omega arith) (λ l e. k) }

  module _ (n : ℕ) (fs : ℕ → Format) where
    pub choice_found : {t : ℕ} {v : Of (fs t)} {next : ℕ} → at < length s → get_or s at 0 ≡ t → t < n → Stands (fs t) s (at + 1) v next
        → Stands (choice n fs) s at (t, v) next
    choice_found h p q k = record { good = (q, k.good); long = omega (arith, k.long); within = k.within; is = headed h p k.is }

    pub choice_empty : length s ≤ at → Lacks (choice n fs) s at
    choice_empty h = record { no = λ v g rest e. omega (arith, (starts v.0 (encode (fs v.0) v.1 ++ rest) e).0) }

    pub choice_other : n ≤ get_or s at 0 → Lacks (choice n fs) s at
    choice_other h = record { no = λ v g rest e. omega (arith, g.0, (starts v.0 (encode (fs v.0) v.1 ++ rest) e).1) }

    pub choice_lacks : (t : ℕ) → get_or s at 0 ≡ t → Lacks (fs t) s (at + 1) → Lacks (choice n fs) s at
    choice_lacks t p k = record {
      no = λ v g rest e.
          let u = starts v.0 (encode (fs v.0) v.1 ++ rest) e in
          let k' : Lacks (fs v.0) s (at + 1) = subst (λ (x : ℕ). Lacks (fs x) s (at + 1)) (sym p ∙ u.1) k in
          k'.no v.1 g.1 rest u.2;
    }
