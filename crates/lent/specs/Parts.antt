-- A part after a step still has the slices that it was lent, as long as they were; what stands in them may be other than before.
-- Assumes nothing.
use Rattle.std.specs.Prelude.{◌≡◌, List, ℕ, length}
use Rattle.std.specs.Borrow.{MutBor}
use Rattle.lent.specs.declared.Map.{Map}
use Rattle.lent.specs.declared.Index.{Index}
use Rattle.lent.specs.declared.Strings.{Strings}
use Rattle.lent.specs.declared.Post.{Post}

-- a slice of numbers, or of bytes, that is lent to be written
abbrev pub Slice : Type 0
Slice = MutBor (List ℕ)

-- the same slice, as long as it was
abbrev pub Stays : Slice → Slice → Type 0
Stays s s' = (s'.ghost_name ≡ s.ghost_name) × (length s'.now ≡ length s.now)

abbrev pub MapStays : Map Slice → Map Slice → Type 0
MapStays m m' = Stays m.lows m'.lows × Stays m.owners m'.owners

abbrev pub IndexStays : Index Slice → Index Slice → Type 0
IndexStays x x' = Stays x.keys x'.keys × Stays x.slots x'.slots

abbrev pub StringsStay : Strings Slice Slice → Strings Slice Slice → Type 0
StringsStay s s' = Stays s.lens s'.lens × Stays s.bytes s'.bytes

abbrev pub PostStays : Post Slice → Post Slice → Type 0
PostStays p p' = Stays p.counts p'.counts × Stays p.places p'.places
