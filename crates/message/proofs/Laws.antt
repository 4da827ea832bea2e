-- The laws of messages that callers go by: bytes are those of one message at most, no message's bytes begin another's, and what was written is
-- read back as itself.
-- Assumes nothing.
use mathlib.Core.Path.{◌≡◌, refl, sym, ap, ap₂, ◌∙◌, subst}
use mathlib.Core.List.{List, [], ◌∷◌, ◌++◌}
use Prim.Native.Nat.{ℕ, ◌+◌, ◌*◌, ◌≤◌, ◌<◌}
use native.Mathlib.Omega.{arith}
use lib.ListN.{length, take, drop, length-append}
use lib.Seq.{take_at}
use Rattle.keys.specs.declared.Bound.{Bound}
use Rattle.keys.specs.declared.Bound.TheVariants.{Key, End}
use Rattle.limits.specs.Limits.{value_max, bytes_max, entries_limit}
use Rattle.format.specs.Number.{width, digits}
use Rattle.format.specs.Format.{Of, Entry, counted, rows, listing}
use Rattle.format.proofs.Numbers.{length_digits}
use Rattle.format.proofs.Clear.{injective, no_prefix}
use Rattle.message.specs.Message.{Body, get, set, reply, redirect, shard, delegate, Datagram, message, ack}
use Rattle.message.specs.Table.{datagram, key_of, body_value, datagram_value, bound_of, body_is, datagram_is, written, Valid}
use Rattle.message.specs.View.{bytes_of, body_of}
use Rattle.message.specs.Answers.{AfterParse, AfterWrite}
use Rattle.message.specs.declared.Parsed.{Parsed}
use Rattle.message.specs.declared.Parsed.TheVariants.{Message, Ack}
use Rattle.std.specs.Prelude.{Option, Some, None, Ok}

-- ---- a message is told by the value that is written

same_bound : (b : Bound) → bound_of (key_of b) ≡ b
same_bound (Key k) = refl
same_bound End = refl

same_body : (b : Body) → body_is (body_value b).0 (body_value b).1 ≡ b
same_body (get k) = refl
same_body (set k v) = refl
same_body (reply k v) = refl
same_body (redirect k a) = refl
same_body (shard lo hi a) = λ i. shard (same_bound lo i) (same_bound hi i) a
same_body (delegate lo hi l) = λ i. delegate (same_bound lo i) (same_bound hi i) l

pub same_datagram : (m : Datagram) → datagram_is (datagram_value m).0 (datagram_value m).1 ≡ m
same_datagram (message n a b) = ap (message n a) (same_body b)
same_datagram (ack n) = refl

told : (m m' : Datagram) → datagram_value m ≡ datagram_value m' → m ≡ m'
told m m' e = sym (same_datagram m) ∙ ap (λ (v : Of datagram). datagram_is v.0 v.1) e ∙ same_datagram m'

-- ---- the laws

-- different messages have different bytes
pub one_message : (m m' : Datagram) → Valid m → Valid m' → written m ≡ written m' → m ≡ m'
one_message m m' g g' e = told m m' (injective datagram (datagram_value m) (datagram_value m') g g' e)

-- .. and none of them begins another's
pub no_message_begins : (m m' : Datagram) → Valid m → Valid m' → (rest : List ℕ) → written m ++ rest ≡ written m' → (m ≡ m') × (rest ≡ [])
no_message_begins m m' g g' rest e =
    let u = no_prefix datagram (datagram_value m) (datagram_value m') g g' rest e in (told m m' u.0, u.1)

-- the message that an answer describes; for None it is none
abbrev pub Describes : List ℕ → Option Parsed → Datagram → Type 0
Describes s (Some (Message n a b)) m = message n (bytes_of s a) (body_of s b) ≡ m
Describes s (Some (Ack n)) m = ack n ≡ m
Describes s None m = ⊥

-- what was written is read back as itself: whatever `parse` answers on the bytes of a message describes that message
pub read_back : (m : Datagram) → Valid m → (r : Option Parsed) → AfterParse (written m) r → Describes (written m) r m
read_back m g (Some (Message n a b)) A = one_message _ m A.is.0 g A.is.1
read_back m g (Some (Ack n)) A = one_message (ack n) m A.is.0 g A.is.1
read_back m g None A = A.is m g refl

-- .. also from the bytes that a writer left: reading as many of them as it said gives the message
pub written_back : (m : Datagram) (d : List ℕ) (n : ℕ) (d' : List ℕ) → AfterWrite m d (Ok n) d' → (r : Option Parsed) → AfterParse (take n d') r
    → Describes (take n d') r m
written_back m d n d' W r A =
    let e : take n d' ≡ written m = ap₂ take W.is.1 W.is.2 ∙ take_at (written m) (drop (0 + length (written m)) d) (length (written m)) refl in
    subst (λ (s : List ℕ). AfterParse s r → Describes s r m) (sym e) (read_back m W.is.0 r) A

-- ---- a list that a host would send is never too long for a message

-- each value is one that a table keeps
abbrev pub Short : List Entry → Type 0
Short [] = Unit
Short (e ∷ l) = (length e.value ≤ value_max) × Short l

pub rows_short : (l : List Entry) → Short l → length (rows l) ≤ length l * (width + width + value_max)
rows_short [] h = omega arith
rows_short (e ∷ l) h =
    omega (
      arith,
      h.0,
      rows_short l h.1,
      length-append (digits width e.key ++ counted e.value) (rows l),
      length-append (digits width e.key) (counted e.value),
      length-append (digits width (length e.value)) e.value,
      length_digits width e.key,
      length_digits width (length e.value),
    )

pub few_fit : (l : List Entry) → length l < entries_limit → Short l → length (listing l) ≤ bytes_max
few_fit l n h =
    let r : length (rows l) ≤ length l * (width + width + value_max) = rows_short l h in
    omega (arith, r, n, length-append (digits width (length l)) (rows l), length_digits width (length l))
