-- Who owns what: ranges that were given away, the newest first. A key is whose the newest range with it says, and the first host's if there is
-- none.
-- Assumes nothing.
use Rattle.std.specs.Prelude.{Bool, true, cond, ◌&&◌, ◌||◌, not, List, [], ◌∷◌, ℕ}
use Rattle.keys.specs.declared.Bound.{Bound}
use Rattle.keys.specs.declared.Bound.TheVariants.{Key, End}
use Rattle.keys.specs.Bound.{holds}
use Rattle.decoding.specs.Decode.{same}
use Rattle.message.specs.Message.{Address}

-- the range [lo, hi) was given to that host
pub record Grant : Type 0 where
  pub lo : Bound
  pub hi : Bound
  pub to : Address

pub record Owners : Type 0 where
  pub first : Address
  pub grants : List Grant

abbrev pub newest : Address → List Grant → ℕ → Address
newest first [] k = first
newest first (g ∷ l) k = cond (holds g.lo g.hi k) g.to (newest first l k)

-- the key's owner
abbrev pub owner_of : Owners → ℕ → Address
owner_of o k = newest o.first o.grants k

-- the range given to the host: exactly the keys in it change
abbrev pub giving : Bound → Bound → Address → Owners → Owners
giving lo hi a o = record { first = o.first; grants = record { lo = lo; hi = hi; to = a } ∷ o.grants }

-- ---- is the whole range one host's?

-- Where the owner can change within a range: at its start, and where a range that was given away starts or ends. If the owner is the same
-- host at all these keys, it is at every key of the range (law `whole_all`)
abbrev pub key_in : Bound → Bound → Bound → Address → Owners → Bool
key_in lo hi End a o = true
key_in lo hi (Key k) a o = not (holds lo hi k) || same (owner_of o k) a

abbrev pub edges : Bound → Bound → List Grant → Address → Owners → Bool
edges lo hi [] a o = true
edges lo hi (g ∷ l) a o = key_in lo hi g.lo a o && (key_in lo hi g.hi a o && edges lo hi l a o)

abbrev pub whole : Bound → Bound → Address → Owners → Bool
whole lo hi a o = key_in lo hi lo a o && edges lo hi o.grants a o
