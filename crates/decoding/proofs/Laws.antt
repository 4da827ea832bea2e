-- The laws of reading as a function: it answers a message exactly if the bytes are one, and then that one.
-- Assumes nothing.
use mathlib.Core.Path.{◌≡◌, refl, sym, ap, ◌∙◌, subst}
use mathlib.Core.Bool.{Bool, true, false, cond, ◌&&◌, and-eq-true_iff}
use mathlib.Core.List.{List, [], ◌∷◌, ◌++◌, append_assoc, append-nil}
use Rattle.std.specs.Prelude.{Option, Some, None}
use mathlib.Core.Option.{Option as Maybe, none, some, some-injective, none-ne-some}
use Prim.Native.Nat.{ℕ, ◌+◌, ◌<◌}
use native.Mathlib.Omega.{arith}
use lib.ListN.{length, take, drop, length-append}
use lib.Seq.{take_at, drop_at, drop-drop}
use lib.Dec.{eqb}
use borrow.Author.Tests.{ne_eqb}
use Rattle.format.specs.Number.{width, numbers, digits, worth}
use Rattle.format.specs.Format.{Format, number, string, maybe, pair, choice, entries, Entry, Of, counted, rows, encode, Small, Good}
use Rattle.format.proofs.Numbers.{length_digits, worth_is}
use Rattle.message.specs.Message.{Datagram, message, ack}
use Rattle.message.specs.View.{bytes_of, body_of}
use Rattle.message.specs.Answers.{AfterParse}
use Rattle.message.specs.declared.Parsed.{Parsed}
use Rattle.message.specs.declared.Parsed.TheVariants.{Message, Ack}
use Rattle.message.specs.Table.{datagram, datagram_value, datagram_is, written, Valid}
use Rattle.message.proofs.Laws.{same_datagram}
use Rattle.decoding.specs.Decode.{same, good, list_of, value_of, checked, read}
use Rattle.decoding.proofs.Decided.{same_true, same_refl, good_true, good_of}

-- ---- a candidate is found where a value is written

-- a number at the front
ahead : (n : ℕ) → n < numbers → (r : List ℕ) → (worth (digits width n ++ r) 0 width ≡ n) × (drop width (digits width n ++ r) ≡ r)
ahead n h r = (worth_is width n h (digits width n ++ r) 0 r refl, drop_at (digits width n) r width (length_digits width n))

-- an entry at the front: its key, its length, its value and what follows
module _ (e : Entry) (k : e.key < numbers) (v : length e.value < numbers) (r : List ℕ) where
  s : List ℕ
  s = (digits width e.key ++ counted e.value) ++ r

  from_key : s ≡ digits width e.key ++ (counted e.value ++ r)
  unfolding s
  from_key = append_assoc (digits width e.key) (counted e.value) r

  behind_key : drop width s ≡ digits width (length e.value) ++ (e.value ++ r)
  unfolding s
  behind_key =
      ap (drop width) from_key
      ∙ drop_at (digits width e.key) (counted e.value ++ r) width (length_digits width e.key)
      ∙ append_assoc (digits width (length e.value)) e.value r

  key_is : worth s 0 width ≡ e.key
  unfolding s
  key_is = worth_is width e.key k s 0 (counted e.value ++ r) from_key

  length_is : worth s width width ≡ length e.value
  unfolding s
  length_is = worth_is width (length e.value) v s width (e.value ++ r) behind_key

  behind_length : drop (width + width) s ≡ e.value ++ r
  unfolding s
  behind_length =
      sym (drop-drop width width s)
      ∙ ap (drop width) behind_key
      ∙ drop_at (digits width (length e.value)) (e.value ++ r) width (length_digits width (length e.value))

  some_bytes : eqb (length s) 0 ≡ false
  unfolding s
  some_bytes =
      ne_eqb (length s) 0 (λ z. omega (
        arith,
        length-append (digits width e.key ++ counted e.value) r,
        length-append (digits width e.key) (counted e.value),
        length_digits width e.key,
      ))

listed : (l : List Entry) → Small l → (r : List ℕ) → list_of (length l) (rows l ++ r) ≡ (l, r)
unfolding list_of s
listed [] h r = refl
listed (e ∷ l) h r =
    let x : List ℕ = rows l ++ r in
    let a : rows (e ∷ l) ++ r ≡ (digits width e.key ++ counted e.value) ++ x = append_assoc (digits width e.key ++ counted e.value) (rows l) r in
    let len = length_is e h.0 h.1 x in
    let val = behind_length e h.0 h.1 x in
    let t : take (length e.value) (e.value ++ x) ≡ e.value = take_at e.value x (length e.value) refl in
    let d : drop (length e.value) (e.value ++ x) ≡ x = drop_at e.value x (length e.value) refl in
    rw (a, some_bytes e h.0 h.1 x, len, val, t, d, key_is e h.0 h.1 x, listed l h.2 r) refl

found : (f : Format) (v : Of f) → Good f v → (r : List ℕ) → value_of f (encode f v ++ r) ≡ some (v, r)
unfolding value_of
found number n h r = rw ((ahead n h r).0, (ahead n h r).1) refl
found (string limit) v h r =
    let a = ahead (length v) h.1 (v ++ r) in
    let t : take (length v) (v ++ r) ≡ v = take_at v r (length v) refl in
    let d : drop (length v) (v ++ r) ≡ r = drop_at v r (length v) refl in
    rw (append_assoc (digits width (length v)) v r, a.0, a.1, t, d) refl
found (maybe f) none h r = refl
found (maybe f) (some v) h r = rw (found f v h r) refl
found (pair f g) v h r =
    rw (append_assoc (encode f v.0) (encode g v.1) r, found f v.0 h.0 (encode g v.1 ++ r), found g v.1 h.1 r) refl
found (choice n fs) v h r = rw (found (fs v.0) v.1 h.1 r) refl
found (entries limit) l h r =
    let a = ahead (length l) h.0 (rows l ++ r) in
    rw (append_assoc (digits width (length l)) (rows l) r, a.0, a.1, listed l h.1 r) refl

-- ---- the laws

-- the message is read from its bytes
pub read_written : (m : Datagram) → Valid m → read (written m) ≡ some m
read_written m h =
    let w : List ℕ = written m in
    let e : value_of datagram w ≡ some (datagram_value m, []) =
    ap (value_of datagram) (sym (append-nil w)) ∙ found datagram (datagram_value m) h [] in
    let t : good datagram (datagram_value m) && same w w ≡ true =
    (and-eq-true_iff (good datagram (datagram_value m)) (same w w)).1 (good_of datagram (datagram_value m) h, same_refl w) in
    rw (e, same_datagram m, t) refl

-- what is read is a message, and is written as those bytes
pub read_some : (s : List ℕ) (m : Datagram) → read s ≡ some m → Valid m × (written m ≡ s)
read_some s m e = go (value_of datagram s) e
  where
    chosen : (t : Bool) (x : Datagram) → good datagram (datagram_value x) && same (written x) s ≡ t → cond t (some x) none ≡ some m
        → Valid m × (written m ≡ s)
    chosen true x q h =
        let u = (and-eq-true_iff (good datagram (datagram_value x)) (same (written x) s)).0 q in
        let k : x ≡ m = some-injective x m h in
        subst (λ (y : Datagram). Valid y × (written y ≡ s)) k (good_true datagram (datagram_value x) u.0, same_true (written x) s u.1)
    chosen false x q h = absurd (none-ne-some m h)

    go : (o : Maybe (Of datagram × List ℕ)) → checked s o ≡ some m → Valid m × (written m ≡ s)
    go none h = absurd (none-ne-some m h)
    go (some p) h = chosen _ (datagram_is p.0.0 p.0.1) refl h

-- where nothing is read, no message is written as those bytes
pub read_none : (s : List ℕ) → read s ≡ none → (m : Datagram) → Valid m → written m ≡ s → ⊥
read_none s e m h w = none-ne-some m (sym e ∙ ap read (sym w) ∙ read_written m h)

-- ---- `parsing::parse` agrees

-- the message that an answer describes
abbrev pub answered : List ℕ → Option Parsed → Maybe Datagram
answered s (Some (Message n a b)) = some (message n (bytes_of s a) (body_of s b))
answered s (Some (Ack n)) = some (ack n)
answered s None = none

pub parse_reads : (s : List ℕ) (r : Option Parsed) → AfterParse s r → read s ≡ answered s r
parse_reads s (Some (Message n a b)) A =
    ap read (sym A.is.1) ∙ read_written (message n (bytes_of s a) (body_of s b)) A.is.0
parse_reads s (Some (Ack n)) A = ap read (sym A.is.1) ∙ read_written (ack n) A.is.0
parse_reads s None A = go (read s) refl
  where
    go : (o : Maybe Datagram) → read s ≡ o → o ≡ none
    go none e = refl
    go (some m) e = let u = read_some s m e in absurd (A.is m u.0 u.1)
