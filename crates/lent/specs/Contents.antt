-- What stands in a part: the part itself, with lists of numbers where code has slices. `.._now` is of a part that is lent to be written, `.._seen` of
-- one that is lent to be read.
-- Assumes nothing.
use Rattle.std.specs.Prelude.{List, ℕ}
use Rattle.std.specs.Borrow.{Bor}
use Rattle.lent.specs.Parts.{Slice}
use Rattle.lent.specs.declared.Map.{Map}
use Rattle.lent.specs.declared.Index.{Index}
use Rattle.lent.specs.declared.Strings.{Strings}
use Rattle.lent.specs.declared.Post.{Post}

-- a slice that is lent to be read
abbrev pub View : Type 0
View = Bor (List ℕ)

abbrev pub map_now : Map Slice → Map (List ℕ)
map_now m = record { lows = m.lows.now; owners = m.owners.now }

abbrev pub map_seen : Map View → Map (List ℕ)
map_seen m = record { lows = m.lows.now; owners = m.owners.now }

abbrev pub index_now : Index Slice → Index (List ℕ)
index_now x = record { keys = x.keys.now; slots = x.slots.now }

abbrev pub index_seen : Index View → Index (List ℕ)
index_seen x = record { keys = x.keys.now; slots = x.slots.now }

abbrev pub strings_now : Strings Slice Slice → Strings (List ℕ) (List ℕ)
strings_now s = record { lens = s.lens.now; bytes = s.bytes.now }

abbrev pub strings_seen : Strings View View → Strings (List ℕ) (List ℕ)
strings_seen s = record { lens = s.lens.now; bytes = s.bytes.now }

abbrev pub post_now : Post Slice → Post (List ℕ)
post_now p = record { counts = p.counts.now; places = p.places.now }

abbrev pub post_seen : Post View → Post (List ℕ)
post_seen p = record { counts = p.counts.now; places = p.places.now }
