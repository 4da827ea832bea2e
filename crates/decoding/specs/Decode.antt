-- The message that bytes are, as a function that computes, so that the host's steps can be functions. How a candidate is found need not be
-- believed: it is taken only if it may be written and is written as those very bytes, and the laws `read_some` and `read_none` say that the
-- function answers a message exactly if there is one.
-- Assumes nothing.
use Rattle.std.specs.Prelude.{Bool, true, false, cond, ◌&&◌, List, [], ◌∷◌, ℕ, zero, suc, ◌+◌, length, take, drop, eqb, ltb, leb}
use Rattle.std.proofs.Math.Option.{Option, none, some}
use Rattle.format.specs.Number.{width, numbers, worth}
use Rattle.format.specs.Format.{Format, number, string, maybe, pair, choice, entries, Entry, Of, listing}
use Rattle.message.specs.Message.{Datagram}
use Rattle.message.specs.Table.{datagram, datagram_value, datagram_is, written}

-- ---- tests that compute

-- are the byte strings equal?
abbrev pub same : List ℕ → List ℕ → Bool
same [] [] = true
same [] (y ∷ b) = false
same (x ∷ a) [] = false
same (x ∷ a) (y ∷ b) = eqb x y && same a b

abbrev pub above : ℕ → List Entry → Bool
above low [] = true
above low (e ∷ l) = leb low e.key && above (suc e.key) l

abbrev pub small : List Entry → Bool
small [] = true
small (e ∷ l) = ltb e.key numbers && (ltb (length e.value) numbers && small l)

-- may the value be written? `format.Good`, decided
abbrev pub good : (f : Format) → Of f → Bool
good number n = ltb n numbers
good (string limit) bytes = ltb (length bytes) limit && ltb (length bytes) numbers
good (maybe f) none = true
good (maybe f) (some v) = good f v
good (pair f g) v = good f v.0 && good g v.1
good (choice n fs) v = ltb v.0 n && good (fs v.0) v.1
good (entries limit) l = ltb (length l) numbers && (small l && (above 0 l && leb (length (listing l)) limit))

-- ---- a candidate, with what follows it

abbrev pub bind : {A B : Type 0} → Option A → (A → Option B) → Option B
bind none f = none
bind (some a) f = f a

-- an entry at the front of the bytes, before the others
abbrev pub entry_and : List ℕ → List Entry × List ℕ → List Entry × List ℕ
entry_and s more =
    (record { key = worth s 0 width; value = take (worth s width width) (drop (width + width) s) } ∷ more.0, more.1)

-- n entries at the front of the bytes; fewer where the bytes run out
unfoldable pub list_of : ℕ → List ℕ → List Entry × List ℕ
list_of zero s = ([], s)
list_of (suc n) s = cond (eqb (length s) 0) ([], []) (entry_and s (list_of n (drop (worth s width width) (drop (width + width) s))))

unfoldable pub value_of : (f : Format) → List ℕ → Option (Of f × List ℕ)
value_of number s = some (worth s 0 width, drop width s)
value_of (string limit) s = some (take (worth s 0 width) (drop width s), drop (worth s 0 width) (drop width s))
value_of (maybe f) [] = none
value_of (maybe f) (b ∷ s) = cond (eqb b 0) (some (none, s)) (bind (value_of f s) (λ p. some (some p.0, p.1)))
value_of (pair f g) s = bind (value_of f s) (λ p. bind (value_of g p.1) (λ q. some ((p.0, q.0), q.1)))
value_of (choice n fs) [] = none
value_of (choice n fs) (t ∷ s) = bind (value_of (fs t) s) (λ p. some ((t, p.0), p.1))
value_of (entries limit) s = some (list_of (worth s 0 width) (drop width s))

-- ---- the message

-- the candidate is taken if it may be written and is written as those bytes
abbrev pub taken : List ℕ → Datagram → Option Datagram
taken s m = cond (good datagram (datagram_value m) && same (written m) s) (some m) none

abbrev pub checked : List ℕ → Option (Of datagram × List ℕ) → Option Datagram
checked s none = none
checked s (some p) = taken s (datagram_is p.0.0 p.0.1)

-- the message that the bytes are, if they are one
abbrev pub read : List ℕ → Option Datagram
read s = checked s (value_of datagram s)
