-- What the tests on a Shard answer.
-- Assumes nothing.
use Rattle.std.specs.Prelude.{◌≡◌, Bool, true, false, ◌&&◌, List, ℕ, ◌≤◌, ◌<◌, length, ltb, Option, Some, None}
use Rattle.limits.specs.Limits.{entries_limit}
use Rattle.keys.specs.declared.Bound.{Bound}
use Rattle.keys.specs.Bound.{below, holds}
use Rattle.format.specs.declared.Part.{Part}
use Rattle.format.specs.Format.{number, maybe, Good}
use Rattle.message.specs.Message.{Address}
use Rattle.message.specs.Table.{key_of}
use Rattle.message.specs.View.{bytes_of, PartIn}
use Rattle.delegation.specs.Map.{Keeps as KeepsMap, room, Left}
use Rattle.peers.specs.Names.{Keeps as KeepsNames}
use Rattle.protocol.specs.Records.{in_range}
use Rattle.protocol.specs.Owners.{whole}
use Rattle.protocol.specs.State.{Host}
use Rattle.hosts.specs.declared.State.{State}
use Rattle.hosts.specs.Memory.{memory}
use Rattle.hosts.specs.Keeps.{Core}

-- the number of a host that has the address and is another, or there is none
abbrev pub RecipientCases : Option ℕ → (name_lens names : List ℕ) → State → List ℕ → Part → Type 0
RecipientCases (Some i) name_lens names k s to =
    (n : ℕ) (N : ℕ → Address) → KeepsNames name_lens names k.width n N → k.hosts ≤ n
    → (i < k.hosts) × (N i ≡ bytes_of s to) × (i ≡ k.me → ⊥)
RecipientCases None name_lens names k s to =
    (n : ℕ) (N : ℕ → Address) → KeepsNames name_lens names k.width n N → k.hosts ≤ n → PartIn s to
    → (i : ℕ) → i < k.hosts → N i ≡ bytes_of s to → i ≡ k.me

pub record AfterRecipient (name_lens names : List ℕ) (k : State) (s : List ℕ) (to : Part) (r : Option ℕ) : Type 0 where
  pub is : RecipientCases r name_lens names k s to

-- r says whether the range has a key; then its bounds can be written
pub record HasKey (lo hi : Bound) (r : Bool) : Type 0 where
  pub is : r ≡ below lo hi
  pub low : r ≡ true → Good (maybe number) (key_of lo)
  pub high : r ≡ true → Good (maybe number) (key_of hi)

-- r says whether the range has a key, and every key of it is the host's own
pub record Mine (lows owners : List ℕ) (k : State) (lo hi : Bound) (r : Bool) : Type 0 where
  pub yes : r ≡ true → (below lo hi ≡ true) × Good (maybe number) (key_of lo) × Good (maybe number) (key_of hi)
      × ((f : ℕ → ℕ) → KeepsMap lows owners k.bounds f → (x : ℕ) → holds lo hi x ≡ true → f x ≡ k.me)
  pub no : r ≡ false → below lo hi ≡ true → (f : ℕ → ℕ) → KeepsMap lows owners k.bounds f
      → (x : ℕ) × (holds lo hi x ≡ true) × (f x ≡ k.me → ⊥)

-- the range has a key, is all the host's own, and has few enough entries for a transfer
abbrev pub movable : Host → Bound → Bound → Bool
movable h lo hi = below lo hi && (whole lo hi h.me h.owners && ltb (length (in_range lo hi h.records)) entries_limit)

pub record Movable (lows owners keys : List ℕ) (k : State) (lo hi : Bound) (r : Bool) : Type 0 where
  pub is : (slots lens values name_lens names counts places mail : List ℕ) (h : Host)
      → Core (memory lows owners keys slots lens values name_lens names counts places mail) k h → r ≡ movable h lo hi

-- giving the range to host i would leave so many bounds, and r says whether there is room for them
pub record Fits (lows owners : List ℕ) (bounds : ℕ) (lo hi : Bound) (i : ℕ) (r : Bool) : Type 0 where
  pub after : ℕ
  pub left : Left lows owners bounds lo hi i after
  pub yes : r ≡ true → after ≤ room lows owners
  pub no : r ≡ false → room lows owners < after
