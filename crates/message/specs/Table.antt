-- How messages are written: document 01's two tables, row by row. A body's byte is its row's place in `bodies`; a new kind is a row at the
-- end. There is no row for the datagram with the byte 2, which is never sent, so bytes that start with it are no message.
-- Assumes nothing.
use Rattle.std.specs.Prelude.{List, [], ◌∷◌, ℕ, zero, suc, length, get_or}
use Rattle.std.proofs.Math.Option.{Option, none, some}
use Rattle.limits.specs.Limits.{bytes_max}
use Rattle.keys.specs.declared.Bound.{Bound}
use Rattle.keys.specs.declared.Bound.TheVariants.{Key, End}
use Rattle.format.specs.Number.{numbers}
use Rattle.format.specs.Format.{Format, number, string, maybe, pair, choice, entries, Of, encode, Good}
use Rattle.message.specs.Message.{Body, get, set, reply, redirect, shard, delegate, Datagram, message, ack}

-- ---- the fields

abbrev pub address : Format
address = string bytes_max

-- a value may have any length here; what is done with a long one is another matter
abbrev pub value : Format
value = string numbers

-- lo and hi: a key each, or none for end
abbrev pub range : Format
range = pair (maybe number) (maybe number)

-- ---- the bodies, by their byte: 0 Get (key), 1 Set and 2 Reply (key, maybe value), 3 Redirect (key, address), 4 Shard (lo, hi, address),
-- 5 Delegate (lo, hi, list of entries)

abbrev pub bodies : List Format
bodies =
    number
    ∷ pair number (maybe value)
    ∷ pair number (maybe value)
    ∷ pair number address
    ∷ pair range address
    ∷ pair range (entries bytes_max)
    ∷ []

abbrev pub fields : ℕ → Format
fields t = get_or bodies t number

abbrev pub body : Format
body = choice (length bodies) fields

-- ---- the datagrams, by their byte: 0 Message (number, destination, body), 1 Ack (number)

abbrev pub datagrams : List Format
datagrams = pair number (pair address body) ∷ number ∷ []

abbrev pub parts : ℕ → Format
parts t = get_or datagrams t number

abbrev pub datagram : Format
datagram = choice (length datagrams) parts

-- ---- a message as a value of its format

abbrev pub key_of : Bound → Option ℕ
key_of (Key k) = some k
key_of End = none

abbrev pub body_value : Body → Of body
body_value (get k) = (0, k)
body_value (set k v) = (1, (k, v))
body_value (reply k v) = (2, (k, v))
body_value (redirect k a) = (3, (k, a))
body_value (shard lo hi a) = (4, ((key_of lo, key_of hi), a))
body_value (delegate lo hi l) = (5, ((key_of lo, key_of hi), l))

abbrev pub datagram_value : Datagram → Of datagram
datagram_value (message n a b) = (0, (n, (a, body_value b)))
datagram_value (ack n) = (1, n)

-- ---- .. and back: the message that a value of the format stands for. A byte that no row has stands for nothing; any message will do

abbrev pub bound_of : Option ℕ → Bound
bound_of none = End
bound_of (some k) = Key k

abbrev pub body_is : (t : ℕ) → Of (fields t) → Body
body_is zero k = get k
body_is (suc zero) v = set v.0 v.1
body_is (suc (suc zero)) v = reply v.0 v.1
body_is (suc (suc (suc zero))) v = redirect v.0 v.1
body_is (suc (suc (suc (suc zero)))) v = shard (bound_of v.0.0) (bound_of v.0.1) v.1
body_is (suc (suc (suc (suc (suc zero))))) v = delegate (bound_of v.0.0) (bound_of v.0.1) v.1
body_is (suc (suc (suc (suc (suc (suc t)))))) v = get v

abbrev pub datagram_is : (t : ℕ) → Of (parts t) → Datagram
datagram_is zero v = message v.0 v.1.0 (body_is v.1.1.0 v.1.1.1)
datagram_is (suc zero) n = ack n
datagram_is (suc (suc t)) n = ack n

-- ---- the bytes

-- the bytes of a message
abbrev pub written : Datagram → List ℕ
written m = encode datagram (datagram_value m)

-- a message that may be written: its numbers have 64 bits, its addresses are short enough, its list's keys rise and it is not too long
abbrev pub Valid : Datagram → Type 0
Valid m = Good datagram (datagram_value m)
