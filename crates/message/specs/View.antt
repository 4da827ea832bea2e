-- What a view says: it names the kind, the numbers, and where in the datagram's bytes each string and list stands.
-- Assumes nothing.
use Rattle.std.specs.Prelude.{List, ℕ, ◌+◌, ◌≤◌, length, Option, Some, None}
use Rattle.std.proofs.Math.Option.{Option as Maybe, none, some}
use Rattle.memory.specs.Bytes.{part}
use Rattle.format.specs.declared.Part.{Part}
use Rattle.format.specs.Place.{listed, Rest}
use Rattle.message.specs.Message.{Body, get, set, reply, redirect, shard, delegate}
use Rattle.message.specs.declared.BodyView.{BodyView}
use Rattle.message.specs.declared.BodyView.TheVariants.{Get, Set, Reply, Redirect, Shard, Delegate}

-- the bytes of a part
abbrev pub bytes_of : List ℕ → Part → List ℕ
bytes_of s p = part s p.at p.len

-- the value that code tells by its place, as a message has it
abbrev pub value_of : List ℕ → Option Part → Maybe (List ℕ)
value_of s None = none
value_of s (Some p) = some (bytes_of s p)

-- the body that a view of the bytes s describes
abbrev pub body_of : List ℕ → BodyView → Body
body_of s (Get k) = get k
body_of s (Set k v) = set k (value_of s v)
body_of s (Reply k v) = reply k (value_of s v)
body_of s (Redirect k a) = redirect k (bytes_of s a)
body_of s (Shard lo hi a) = shard lo hi (bytes_of s a)
body_of s (Delegate lo hi l) = delegate lo hi (listed s l.at l.count)

-- ---- what a view names lies within the bytes

abbrev pub PartIn : List ℕ → Part → Type 0
PartIn s p = p.at + p.len ≤ length s

abbrev pub ValueIn : List ℕ → Option Part → Type 0
ValueIn s None = Unit
ValueIn s (Some p) = PartIn s p

-- the list's entries stand one after the other up to the end of the bytes
abbrev pub BodyIn : List ℕ → BodyView → Type 0
BodyIn s (Get k) = Unit
BodyIn s (Set k v) = ValueIn s v
BodyIn s (Reply k v) = ValueIn s v
BodyIn s (Redirect k a) = PartIn s a
BodyIn s (Shard lo hi a) = PartIn s a
BodyIn s (Delegate lo hi l) = (next : ℕ) × Rest s l.at l.count 0 (listed s l.at l.count) next
