-- Laws of the memory that keeps a table: the permutation of slots, the bytes in a slot, and from them that memory keeps the changed table
-- after an entry was added, overwritten or taken out.
-- Assumes nothing.
use mathlib.Core.Path.{◌≡◌, refl, sym, ap, ◌∙◌}
use mathlib.Core.Logic.{⊎_elim}
use mathlib.Core.Bool.{Bool, true, false, cond}
use mathlib.Core.List.{List}
use mathlib.Core.Option.{some}
use Prim.Native.Nat.{ℕ, suc, ◌+◌, ◌-◌, ◌*◌, ◌≤◌, ◌<◌}
use native.Mathlib.Omega.{arith}
use lib.Dec.{eqb, ltb}
use lib.ListN.{length, get_or, set, length-set}
use lib.Seq.{get_or-set_same, get_or-set_other}
use borrow.Author.Tests.{eq-eqb, ne_eqb, lt-ltb, le-ltb}
use Rattle.limits.specs.Limits.{value_max}
use Rattle.columns.specs.Column.{inserted, without, Splits}
use Rattle.columns.proofs.Cases.{lt_or_ge, eq_or_ne}
use Rattle.columns.proofs.Columns.{length_inserted, inserted_before, inserted_at, inserted_after, inserted_past, length_without, cut_before, cut_after}
use Rattle.memory.proofs.Parts.{length_placed, placed_in, placed_before, placed_after}
use Rattle.memory.specs.Bytes.{placed, part}
use Rattle.records.specs.Table.{Value, Table, put, dropped}
use Rattle.records.specs.Memory.{in_slot, value_at, Slots, Keeps}
use Rattle.records.specs.Inner.{Room}
use Rattle.records.proofs.Tables.{insert_listed, overwrite_listed, span_listed}

-- ---- the slot of place n, moved to place p, leaves a permutation

module _ (slots : List ℕ) (n p : ℕ) (S : Slots slots) (nl : n < length slots) (pn : p ≤ n) where
  moved : List ℕ
  moved = inserted slots n p (get_or slots n 0)

  -- where the slot of place o has gone
  to : ℕ → ℕ
  to o = cond (ltb o p) o (cond (ltb o n) (suc o) (cond (eqb o n) p o))

  record From (x : ℕ) : Type 0 where
    place : ℕ
    within : place < length slots
    slot : get_or moved x 0 ≡ get_or slots place 0
    gone : x ≡ to place

  from : (x : ℕ) → x < length slots → From x
  unfolding to moved
  from x q =
      ⊎_elim (λ a. before a)
      (λ a. ⊎_elim (λ b. ⊎_elim (λ d. past d) (λ d. after b d) (lt_or_ge n x)) (λ b. let e : x ≡ p = omega arith in here e) (lt_or_ge p x))
      (lt_or_ge x p)
    where
      before : x < p → From x
      before a = record { place = x; within = q; slot = inserted_before slots n p (get_or slots n 0) pn nl x a; gone = simp (lt-ltb x p a) }

      here : x ≡ p → From x
      here e = record {
        place = n;
        within = nl;
        slot = ap (λ (t : ℕ). get_or (inserted slots n p (get_or slots n 0)) t 0) e ∙ inserted_at slots n p (get_or slots n 0) pn nl;
        gone = e ∙ simp (le-ltb n p pn, le-ltb n n (omega arith), eq-eqb n n refl);
      }

      after : p < x → x ≤ n → From x
      after a b =
          let e : x ≡ suc (x - 1) = omega arith in
          record {
            place = x - 1;
            within = omega arith;
            slot = ap (λ (t : ℕ). get_or (inserted slots n p (get_or slots n 0)) t 0) e ∙ inserted_after slots n p (get_or slots n 0) pn nl (x - 1) (omega arith) (omega arith);
            gone = e ∙ simp (le-ltb (x - 1) p (omega arith), lt-ltb (x - 1) n (omega arith));
          }

      past : n < x → From x
      past a = record {
        place = x;
        within = q;
        slot = inserted_past slots n p (get_or slots n 0) pn nl x a;
        gone = simp (le-ltb x p (omega arith), le-ltb x n (omega arith), ne_eqb x n (omega arith));
      }

  pub moved_slots : Slots (inserted slots n p (get_or slots n 0))
  unfolding moved
  moved_slots =
      let l : length (inserted slots n p (get_or slots n 0)) ≡ length slots = length_inserted slots n p (get_or slots n 0) pn nl in
      record {
        below = λ i q. let f = from i (omega arith) in omega (arith, f.slot, S.below f.place f.within);
        apart = λ i j q r e.
            let f = from i (omega arith) in
            let g = from j (omega arith) in
            f.gone ∙ ap to (S.apart f.place g.place f.within g.within (sym f.slot ∙ e ∙ g.slot)) ∙ sym g.gone;
      }

-- ---- a value written into slot s

module _ (lens values : List ℕ) (s : ℕ) (v : Value) (sl : s < length lens) (vl : s * value_max + value_max ≤ length values) (short : length v ≤ value_max)
  where
    whole : s * value_max + length v ≤ length values
    whole = omega arith

    pub slot_same : in_slot (set lens s (length v)) (placed values (s * value_max) v) s ≡ v
    slot_same =
        ap (λ (t : ℕ). part (placed values (s * value_max) v) (s * value_max) t) (get_or-set_same lens s (length v) 0 sl)
        ∙ placed_in values (s * value_max) v whole

    pub slot_other : (t : ℕ) → (t ≡ s → ⊥) → get_or lens t 0 ≤ value_max → in_slot (set lens s (length v)) (placed values (s * value_max) v) t ≡ in_slot lens values t
    slot_other t h b =
        ap (λ (x : ℕ). part (placed values (s * value_max) v) (t * value_max) x) (get_or-set_other lens s t (length v) 0 h)
        ∙ ⊎_elim
        (λ w. placed_before values (s * value_max) v whole (t * value_max) (get_or lens t 0) (omega arith))
        (λ w. placed_after values (s * value_max) v whole (t * value_max) (get_or lens t 0) (let u : s < t = omega (arith, h) in omega arith))
        (lt_or_ge t s)

-- ---- memory that keeps a table

-- every place has its slot's length and bytes
pub slot_lens : (keys slots lens values : List ℕ) (n : ℕ) (T : Table) → Keeps keys slots lens values n T → (i : ℕ) → i < length slots
    → get_or slots i 0 < length lens
slot_lens keys slots lens values n T K i q = omega (arith, K.slotted.below i q, K.shape.fits_lens)

pub slot_bytes : (keys slots lens values : List ℕ) (n : ℕ) (T : Table) → Keeps keys slots lens values n T → (i : ℕ) → i < length slots
    → get_or slots i 0 * value_max + value_max ≤ length values
slot_bytes keys slots lens values n T K i q = omega (arith, K.slotted.below i q, K.shape.fits_values)

pub place_room : (keys slots lens values : List ℕ) (n : ℕ) (T : Table) → Keeps keys slots lens values n T → (i : ℕ) → i < length slots
    → Room slots lens values i
place_room keys slots lens values n T K i q = record {
  place = q;
  slot = slot_lens keys slots lens values n T K i q;
  bytes = slot_bytes keys slots lens values n T K i q;
}

-- the keys are there
pub in_keys : (keys slots lens values : List ℕ) (n : ℕ) (T : Table) → Keeps keys slots lens values n T → n ≤ length keys
in_keys keys slots lens values n T K = omega (arith, K.shape.count, K.shape.fits_keys)

module _ (keys slots lens values : List ℕ) (n : ℕ) (T : Table) (K : Keeps keys slots lens values n T) (key : ℕ) (v : Value)
    (short : length v ≤ value_max) (q : ℕ) (ql : q < length slots)
  where
    -- the value is written into the slot of place q
    lens' : List ℕ
    lens' = set lens (get_or slots q 0) (length v)

    values' : List ℕ
    values' = placed values (get_or slots q 0 * value_max) v

    in_lens : get_or slots q 0 < length lens
    in_lens = slot_lens keys slots lens values n T K q ql

    in_values : get_or slots q 0 * value_max + value_max ≤ length values
    in_values = slot_bytes keys slots lens values n T K q ql

    same_lens : length lens' ≡ length lens
    unfolding lens'
    same_lens = length-set lens (get_or slots q 0) (length v)

    same_values : length values' ≡ length values
    unfolding values'
    same_values = let w : get_or slots q 0 * value_max + length v ≤ length values = omega (arith, in_values) in length_placed values (get_or slots q 0 * value_max) v w

    here : in_slot lens' values' (get_or slots q 0) ≡ v
    unfolding lens' values'
    here = slot_same lens values (get_or slots q 0) v in_lens in_values short

    apart : (x : ℕ) → x < n → (x ≡ q → ⊥) → get_or slots x 0 ≡ get_or slots q 0 → ⊥
    apart x a h e = h (K.slotted.apart x q (omega (arith, K.shape.count)) ql e)

    there : (x : ℕ) → x < n → (x ≡ q → ⊥) → in_slot lens' values' (get_or slots x 0) ≡ in_slot lens values (get_or slots x 0)
    unfolding lens' values'
    there x a h = slot_other lens values (get_or slots q 0) v in_lens in_values short (get_or slots x 0) (apart x a h) (K.short x a)

    here_short : get_or lens' (get_or slots q 0) 0 ≤ value_max
    unfolding lens'
    here_short = omega (arith, get_or-set_same lens (get_or slots q 0) (length v) 0 in_lens)

    there_short : (x : ℕ) → x < n → (x ≡ q → ⊥) → get_or lens' (get_or slots x 0) 0 ≤ value_max
    unfolding lens'
    there_short x a h = omega (arith, get_or-set_other lens (get_or slots q 0) (get_or slots x 0) (length v) 0 (apart x a h), K.short x a)

    -- the entry at place q has the key: its value is overwritten
    pub keeps_overwrite : q < n → get_or keys q 0 ≡ key
        → Keeps keys slots (set lens (get_or slots q 0) (length v)) (placed values (get_or slots q 0 * value_max) v) n (put key (some v) T)
    unfolding lens' values'
    keeps_overwrite qn e = record {
      shape = record {
        count = K.shape.count;
        fits_keys = K.shape.fits_keys;
        fits_lens = omega (arith, same_lens, K.shape.fits_lens);
        fits_values = omega (arith, same_values, K.shape.fits_values);
      };
      slotted = K.slotted;
      short = λ i a. ⊎_elim (λ w. rw w here_short) (λ w. there_short i a w) (eq_or_ne i q);
      listed = overwrite_listed n (λ i. get_or keys i 0) (value_at slots lens values) (value_at slots lens' values') T K.listed key v q qn e here there;
    }

-- a new key before place p, its value in the first free slot
module _ (keys slots lens values : List ℕ) (n : ℕ) (T : Table) (K : Keeps keys slots lens values n T) (key : ℕ) (v : Value)
    (short : length v ≤ value_max) (p : ℕ) (nl : n < length slots) (P : Splits keys n key p) (new : (x : ℕ) → x < n → get_or keys x 0 ≡ key → ⊥)
  where
    pn : p ≤ n
    pn = P.within

    nk : n < length keys
    nk = omega (arith, K.shape.fits_keys)

    slots' : List ℕ
    slots' = inserted slots n p (get_or slots n 0)

    next_lens : List ℕ
    unfolding lens'
    next_lens = lens' keys slots lens values n T K key v short n nl

    next_values : List ℕ
    unfolding values'
    next_values = values' keys slots lens values n T K key v short n nl

    other : (x : ℕ) → x < n → in_slot next_lens next_values (get_or slots x 0) ≡ in_slot lens values (get_or slots x 0)
    unfolding next_lens next_values
    other x a = there keys slots lens values n T K key v short n nl x a (omega arith)

    -- the value's length, wherever an entry has gone
    Ok : ℕ → Type 0
    Ok s = get_or next_lens s 0 ≤ value_max

    all_short : (i : ℕ) → i < suc n → Ok (get_or slots' i 0)
    unfolding Ok slots' next_lens
    all_short i a =
        ⊎_elim
        (λ w. rw (inserted_before slots n p (get_or slots n 0) pn nl i w) (there_short keys slots lens values n T K key v short n nl i (omega (arith, pn)) (omega (arith, pn))))
        (λ w. ⊎_elim
        (λ u.
        let e : i ≡ suc (i - 1) = omega arith in
        rw (e, inserted_after slots n p (get_or slots n 0) pn nl (i - 1) (omega arith) (omega arith)) (there_short keys slots lens values n T K key v short n nl (i - 1) (omega arith) (omega arith)))
        (λ u.
        let e : i ≡ p = omega arith in
        rw (e, inserted_at slots n p (get_or slots n 0) pn nl) (here_short keys slots lens values n T K key v short n nl))
        (lt_or_ge p i))
        (lt_or_ge i p)

    pub keeps_add : Keeps (inserted keys n p key) (inserted slots n p (get_or slots n 0)) (set lens (get_or slots n 0) (length v))
        (placed values (get_or slots n 0 * value_max) v) (suc n) (put key (some v) T)
    unfolding slots' next_lens next_values Ok
    keeps_add =
        let ls : length (inserted slots n p (get_or slots n 0)) ≡ length slots = length_inserted slots n p (get_or slots n 0) pn nl in
        let lk : length (inserted keys n p key) ≡ length keys = length_inserted keys n p key pn nk in
        record {
          shape = record {
            count = omega arith;
            fits_keys = omega (arith, K.shape.fits_keys);
            fits_lens = omega (arith, same_lens keys slots lens values n T K key v short n nl, K.shape.fits_lens);
            fits_values = omega (arith, same_values keys slots lens values n T K key v short n nl, K.shape.fits_values);
          };
          slotted = moved_slots slots n p K.slotted nl pn;
          short = all_short;
          listed =
              insert_listed n (λ i. get_or keys i 0) (λ i. get_or (inserted keys n p key) i 0) (value_at slots lens values)
              (value_at slots' next_lens next_values) T K.listed key v p pn
              (λ x a. let ne : get_or keys x 0 ≡ key → ⊥ = new x (omega (arith, pn)) in omega (arith, P.low x a))
              (λ x a b. P.high x a b)
              (λ x a. inserted_before keys n p key pn nk x a)
              (inserted_at keys n p key pn nk)
              (λ x a b. inserted_after keys n p key pn nk x a b)
              (λ x a. ap (in_slot next_lens next_values) (inserted_before slots n p (get_or slots n 0) pn nl x a) ∙ other x (omega (arith, pn)))
              (ap (in_slot next_lens next_values) (inserted_at slots n p (get_or slots n 0) pn nl) ∙ here keys slots lens values n T K key v short n nl)
              (λ x a b. ap (in_slot next_lens next_values) (inserted_after slots n p (get_or slots n 0) pn nl x a b) ∙ other x b);
        }

-- the entries from place i up to place j are taken out
module _ (keys slots lens values : List ℕ) (n : ℕ) (T : Table) (K : Keeps keys slots lens values n T) (i j : ℕ) (ij : i ≤ j) (jn : j ≤ n)
    (p : ℕ → Bool) (yes-in : (x : ℕ) → i ≤ x → x < j → p (get_or keys x 0) ≡ true)
    (not-out : (x : ℕ) → x < n → (i ≤ x → x < j → ⊥) → p (get_or keys x 0) ≡ false)
    (slots' : List ℕ) (long : length slots' ≡ length slots) (S : Slots slots')
    (s_before : (x : ℕ) → x < i → get_or slots' x 0 ≡ get_or slots x 0) (s-after : (y : ℕ) → j + y < n → get_or slots' (i + y) 0 ≡ get_or slots (j + y) 0)
  where
    left_short : (x : ℕ) → x < n - (j - i) → get_or lens (get_or slots' x 0) 0 ≤ value_max
    left_short x a =
        ⊎_elim
        (λ w. rw (s_before x w) (K.short x (omega arith)))
        (λ w.
        let e : x ≡ i + (x - i) = omega arith in
        let f : j + (x - i) < n = omega arith in
        rw (ap (λ (t : ℕ). get_or slots' t 0) e ∙ s-after (x - i) f) (K.short (j + (x - i)) f))
        (lt_or_ge x i)

    pub keeps_span : Keeps (without keys n i j) slots' lens values (n - (j - i)) (dropped p T)
    keeps_span =
        let nk : n ≤ length keys = in_keys keys slots lens values n T K in
        let lk : length (without keys n i j) ≡ length keys = length_without keys n i j ij jn nk in
        record {
          shape = record {
            count = omega (arith, K.shape.count);
            fits_keys = omega (arith, K.shape.fits_keys);
            fits_lens = omega (arith, K.shape.fits_lens);
            fits_values = omega (arith, K.shape.fits_values);
          };
          slotted = S;
          short = left_short;
          listed =
              span_listed n (λ x. get_or keys x 0) (value_at slots lens values) T K.listed i j ij jn p yes-in not-out
              (λ x. get_or (without keys n i j) x 0) (value_at slots' lens values)
              (λ x a. cut_before keys n i j ij jn nk x a)
              (λ y a. cut_after keys n i j ij jn nk y a)
              (λ x a. ap (in_slot lens values) (s_before x a))
              (λ y a. ap (in_slot lens values) (s-after y a));
        }
