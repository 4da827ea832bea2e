-- The laws by which a list of entries is read, one entry after the other.
-- Assumes nothing.
use mathlib.Core.Path.{◌≡◌, refl, sym, ap, ◌∙◌, subst}
use mathlib.Core.List.{List, [], ◌∷◌, ◌++◌, append_assoc}
use Prim.Native.Nat.{ℕ, zero, suc, ◌+◌, ◌-◌, ◌≤◌, ◌<◌}
use native.Mathlib.Omega.{arith}
use lib.ListN.{length, take, drop, length-append}
use lib.Seq.{drop-drop, drop_at, take_at}
use Rattle.memory.specs.Bytes.{part}
use Rattle.format.specs.Number.{width, numbers, digits, worth}
use Rattle.format.specs.Format.{number, entries, Entry, counted, rows, listing, encode, Above, Small, Good}
use Rattle.format.specs.Place.{Stands, Lacks, listed, row, Rest, NoRest, Leads}
use Rattle.format.proofs.Numbers.{length_digits, worth_is}
use Rattle.format.proofs.Clear.{rows_clear}
use Rattle.format.proofs.Reading.{only}

-- ---- an entry and what follows it

module _ {s : List ℕ} {at mid : ℕ} {k : ℕ} {v : List ℕ} (stands : Stands row s at (k, v) mid) where
  pub rest_more : {m low next : ℕ} {l : List Entry} → low ≤ k → Rest s mid m (suc k) l next → Rest s at (suc m) low (record { key = k; value = v } ∷ l) next
  rest_more {m} {low} {next} {l} h r = record {
    count = ap suc r.count;
    small = (stands.good.0, stands.good.1.1, r.small);
    above = (h, r.above);
    long = omega (arith, stands.long, r.long, length-append (encode row (k, v)) (rows l));
    within = r.within;
    is = stands.is ∙ ap (λ (b : List ℕ). encode row (k, v) ++ b) r.is ∙ sym (append_assoc (encode row (k, v)) (rows l) (drop next s));
  }

  -- the head of any list that is written there
  headed : (e : Entry) (l : List Entry) → Small (e ∷ l) → (rest : List ℕ) → drop at s ≡ rows (e ∷ l) ++ rest
      → (◌≡◌ {A = ℕ × List ℕ} (e.key, e.value) (k, v)) × (rows l ++ rest ≡ drop mid s)
  headed e l g rest h =
      only stands (e.key, e.value) (g.0, (g.1, g.1)) (rows l ++ rest) (h ∙ append_assoc (encode row (e.key, e.value)) (rows l) rest)

  pub no_rest_more : {m low : ℕ} → NoRest s mid m (suc k) → NoRest s at (suc m) low
  no_rest_more {m} {low} r = record { no = go }
    where
      go : (l : List Entry) → length l ≡ suc m → Small l → Above low l → (rest : List ℕ) → drop at s ≡ rows l ++ rest → ⊥
      go [] c g a rest h = omega arith
      go (e ∷ l) c g a rest h =
          let u = headed e l g rest h in
          r.no l (omega arith) g.2 (subst (λ (x : ℕ). Above (suc x) l) (ap (λ (p : ℕ × List ℕ). p.0) u.0) a.1) rest (sym u.1)

  pub no_rest_low : {m low : ℕ} → k < low → NoRest s at (suc m) low
  no_rest_low {m} {low} q = record { no = go }
    where
      go : (l : List Entry) → length l ≡ suc m → Small l → Above low l → (rest : List ℕ) → drop at s ≡ rows l ++ rest → ⊥
      go [] c g a rest h = omega arith
      go (e ∷ l) c g a rest h = omega (arith, ap (λ (p : ℕ × List ℕ). p.0) (headed e l g rest h).0, a.0)

pub no_rest_lacks : {s : List ℕ} {at m low : ℕ} → Lacks row s at → NoRest s at (suc m) low
no_rest_lacks {s} {at} {m} {low} k = record { no = go }
  where
    go : (l : List Entry) → length l ≡ suc m → Small l → Above low l → (rest : List ℕ) → drop at s ≡ rows l ++ rest → ⊥
    go [] c g a rest h = omega arith
    go (e ∷ l) c g a rest h =
        k.no (e.key, e.value) (g.0, (g.1, g.1)) (rows l ++ rest) (h ∙ append_assoc (encode row (e.key, e.value)) (rows l) rest)

pub rest_end : {s : List ℕ} {at low : ℕ} → at ≤ length s → Rest s at 0 low [] at
rest_end h = record { count = refl; small = tt; above = tt; long = omega arith; within = h; is = refl }

-- ---- where the parts of an entry stand

-- what stands behind the first n bytes
behind : (s : List ℕ) (at : ℕ) (a r : List ℕ) (n : ℕ) → length a ≡ n → drop at s ≡ a ++ r → drop (at + n) s ≡ r
behind s at a r n h e = sym (drop-drop n at s) ∙ ap (drop n) e ∙ drop_at a r n h

module _ {s : List ℕ} {at mid : ℕ} {k : ℕ} {v : List ℕ} (stands : Stands row s at (k, v) mid) where
  from_key : drop at s ≡ digits width k ++ (counted v ++ drop mid s)
  from_key = stands.is ∙ append_assoc (digits width k) (counted v) (drop mid s)

  pub row_key : worth s at width ≡ k
  row_key = worth_is width k stands.good.0 s at (counted v ++ drop mid s) from_key

  from_length : drop (at + width) s ≡ digits width (length v) ++ (v ++ drop mid s)
  from_length =
      behind s at (digits width k) (counted v ++ drop mid s) width (length_digits width k) from_key
      ∙ append_assoc (digits width (length v)) v (drop mid s)

  pub row_length : worth s (at + width) width ≡ length v
  row_length = worth_is width (length v) stands.good.1.1 s (at + width) (v ++ drop mid s) from_length

  pub row_value : part s (at + width + width) (length v) ≡ v
  row_value =
      ap (take (length v)) (behind s (at + width) (digits width (length v)) (v ++ drop mid s) width (length_digits width (length v)) from_length)
      ∙ take_at v (drop mid s) (length v) refl

  pub row_next : mid ≡ at + width + width + length v
  row_next =
      omega (
        arith,
        stands.long,
        length-append (digits width k) (counted v),
        length-append (digits width (length v)) v,
        length_digits width k,
        length_digits width (length v),
      )

-- the first entry of a list that stands, and the rest of the list behind it
pub rest_head : {s : List ℕ} {at m low next : ℕ} {e : Entry} {l : List Entry} → Rest s at (suc m) low (e ∷ l) next
    → (mid : ℕ) × Stands row s at (e.key, e.value) mid × Rest s mid m (suc e.key) l next
rest_head {s} {at} {m} {low} {next} {e} {l} r =
    let x : List ℕ = encode row (e.key, e.value) in
    let mid : ℕ = at + length x in
    let all : length (x ++ rows l) ≡ length x + length (rows l) = length-append x (rows l) in
    let i : drop at s ≡ x ++ (rows l ++ drop next s) = r.is ∙ append_assoc x (rows l) (drop next s) in
    let d : drop mid s ≡ rows l ++ drop next s = behind s at x (rows l ++ drop next s) (length x) refl i in (
      mid,
      record {
        good = (r.small.0, (r.small.1, r.small.1));
        long = refl;
        within = omega (arith, r.long, r.within, all);
        is = i ∙ ap (λ (b : List ℕ). x ++ b) (sym d);
      },
      record {
        count = omega (arith, r.count);
        small = r.small.2;
        above = r.above.1;
        long = omega (arith, r.long, all);
        within = r.within;
        is = d;
      },
    )

-- the list that stands at a place is the one that is read off there
pub listed_is : (n : ℕ) (s : List ℕ) (at low next : ℕ) (l : List Entry) → Rest s at n low l next → listed s at n ≡ l
listed_is zero s at low next [] r = refl
listed_is zero s at low next (e ∷ l) r = absurd (omega (arith, r.count))
listed_is (suc n) s at low next [] r = absurd (omega (arith, r.count))
listed_is (suc n) s at low next (e ∷ l) r =
    let u = rest_head r in
    let st = u.1 in
    let p : part s (at + width + width) (worth s (at + width) width) ≡ e.value =
    ap (λ (j : ℕ). part s (at + width + width) j) (row_length st) ∙ row_value st in
    let q : at + width + width + worth s (at + width) width ≡ u.0 =
    ap (λ (j : ℕ). at + width + width + j) (row_length st) ∙ sym (row_next st) in
    let t : listed s (at + width + width + worth s (at + width) width) n ≡ l =
    ap (λ (j : ℕ). listed s j n) q ∙ listed_is n s u.0 (suc e.key) next l u.2 in
    λ i. record { key = row_key st i; value = p i } ∷ t i

-- ---- the loop: each entry that is read leads on

pub leads_start : (s : List ℕ) (from n : ℕ) → Leads s from n from n 0
leads_start s from n = record { found = λ l next r. (l, r); lacks = λ r. r }

module _ {s : List ℕ} {from n at m low mid k : ℕ} {v : List ℕ} (leads : Leads s from n at m low) (some : 0 < m)
    (stands : Stands row s at (k, v) mid) where
  one : suc (m - 1) ≡ m
  one = omega arith

  pub leads_more : low ≤ k → Leads s from n mid (m - 1) (suc k)
  leads_more h = record {
    found = λ l next r. leads.found (record { key = k; value = v } ∷ l) next
        (subst (λ (x : ℕ). Rest s at x low (record { key = k; value = v } ∷ l) next) one (rest_more stands h r));
    lacks = λ r. leads.lacks (subst (λ (x : ℕ). NoRest s at x low) one (no_rest_more stands r));
  }

  pub leads_low : k < low → NoRest s from n 0
  leads_low h = leads.lacks (subst (λ (x : ℕ). NoRest s at x low) one (no_rest_low stands h))

pub leads_lacks : {s : List ℕ} {from n at m low : ℕ} → Leads s from n at m low → 0 < m → Lacks row s at → NoRest s from n 0
leads_lacks {s} {from} {n} {at} {m} {low} leads some k =
    let one : suc (m - 1) ≡ m = omega arith in
    leads.lacks (subst (λ (x : ℕ). NoRest s at x low) one (no_rest_lacks k))

pub leads_end : {s : List ℕ} {from n at m low : ℕ} → Leads s from n at m low → m ≡ 0 → at ≤ length s → Rest s from n 0 (listed s from n) at
leads_end {s} {from} {n} {at} {m} {low} leads e h =
    let u = leads.found [] at (subst (λ (x : ℕ). Rest s at x low [] at) (sym e) (rest_end h)) in
    subst (λ (l : List Entry). Rest s from n 0 l at) (sym (listed_is n s from 0 at u.0 u.1)) u.1

-- ---- the whole list

module _ {s : List ℕ} {at n : ℕ} (limit : ℕ) (counts : Stands number s at n (at + width)) where
  -- a list that is written there has as many entries as the number says
  numbered : (l : List Entry) → Good (entries limit) l → (rest : List ℕ) → drop at s ≡ listing l ++ rest
      → (length l ≡ n) × (rows l ++ rest ≡ drop (at + width) s)
  numbered l g rest e = only counts (length l) g.0 (rows l ++ rest) (e ∙ append_assoc (digits width (length l)) (rows l) rest)

  pub entries_found : {l : List Entry} {next : ℕ} → Rest s (at + width) n 0 l next → next ≤ at + limit → Stands (entries limit) s at l next
  entries_found {l} {next} r h =
      let d : length (listing l) ≡ width + length (rows l) =
      length-append (digits width (length l)) (rows l) ∙ ap (λ (j : ℕ). j + length (rows l)) (length_digits width (length l)) in
      record {
        good = (subst (λ (x : ℕ). x < numbers) (sym r.count) counts.good, r.small, r.above, omega (arith, r.long, d));
        long = omega (arith, r.long, d);
        within = r.within;
        is =
            counts.is
            ∙ ap (λ (x : ℕ). digits width x ++ drop (at + width) s) (sym r.count)
            ∙ ap (λ (b : List ℕ). digits width (length l) ++ b) r.is
            ∙ sym (append_assoc (digits width (length l)) (rows l) (drop next s));
      }

  pub entries_none : NoRest s (at + width) n 0 → Lacks (entries limit) s at
  entries_none k = record {
    no = λ l g rest e. let u = numbered l g rest e in k.no l u.0 g.1 g.2 rest (sym u.1);
  }

  pub entries_long : {l : List Entry} {next : ℕ} → Rest s (at + width) n 0 l next → at + limit < next → Lacks (entries limit) s at
  entries_long {l} {next} r h = record {
    no = λ m g rest e.
        let u = numbered m g rest e in
        let w = rows_clear m l (u.0 ∙ sym r.count) g.1 r.small rest (drop next s) (u.1 ∙ r.is) in
        omega (arith, g.3, r.long, length-append (digits width (length m)) (rows m), length_digits width (length m), ap (λ (x : List Entry). length (rows x)) w.0);
  }

pub entries_unnumbered : {s : List ℕ} {at : ℕ} (limit : ℕ) → Lacks number s at → Lacks (entries limit) s at
entries_unnumbered limit k = record {
  no = λ l g rest e. k.no (length l) g.0 (rows l ++ rest) (e ∙ append_assoc (digits width (length l)) (rows l) rest);
}
