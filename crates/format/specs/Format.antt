-- The grammar of messages as data (document 01, section 3): what a format is, which values it has, how a value is written, and which
-- values are good, that is, may be written at all. One clause a constructor; a message's own format is a term of this type.
-- Assumes nothing.
use Rattle.std.specs.Prelude.{List, [], ◌∷◌, ◌++◌, ℕ, suc, ◌≤◌, ◌<◌, length}
use Rattle.std.proofs.Math.Option.{Option, none, some}
use Rattle.format.specs.Number.{width, numbers, digits}

pub data Format : Type 0 where
  number : Format
  -- a byte string that is shorter than the limit
  string : ℕ → Format
  -- a value of the format, or none
  maybe : Format → Format
  -- one after the other
  pair : Format → Format → Format
  -- one of so many formats, told apart by a byte
  choice : ℕ → (ℕ → Format) → Format
  -- a list of keys and values with rising keys that takes at most so many bytes
  entries : ℕ → Format

-- an entry of such a list
pub record Entry : Type 0 where
  pub key : ℕ
  pub value : List ℕ

-- the values of a format; that of a choice says which one it is
abbrev pub Of : Format → Type 0
Of number = ℕ
Of (string limit) = List ℕ
Of (maybe f) = Option (Of f)
Of (pair f g) = Of f × Of g
Of (choice n fs) = (t : ℕ) × Of (fs t)
Of (entries limit) = List Entry

-- ---- how a value is written

-- a byte string: its length, then its bytes
abbrev pub counted : List ℕ → List ℕ
counted bytes = digits width (length bytes) ++ bytes

abbrev pub rows : List Entry → List ℕ
rows [] = []
rows (e ∷ l) = (digits width e.key ++ counted e.value) ++ rows l

-- the list of entries: how many there are, then each
abbrev pub listing : List Entry → List ℕ
listing l = digits width (length l) ++ rows l

abbrev pub encode : (f : Format) → Of f → List ℕ
encode number n = digits width n
encode (string limit) bytes = counted bytes
encode (maybe f) none = 0 ∷ []
encode (maybe f) (some v) = 1 ∷ encode f v
encode (pair f g) v = encode f v.0 ++ encode g v.1
encode (choice n fs) v = v.0 ∷ encode (fs v.0) v.1
encode (entries limit) l = listing l

-- ---- which values are good: those whose parts fit where they are written

-- the first key is not below `low`, and each further one lies above the one before it
abbrev pub Above : ℕ → List Entry → Type 0
Above low [] = Unit
Above low (e ∷ l) = (low ≤ e.key) × Above (suc e.key) l

-- each key is a number, and each length can be told
abbrev pub Small : List Entry → Type 0
Small [] = Unit
Small (e ∷ l) = (e.key < numbers) × (length e.value < numbers) × Small l

abbrev pub Good : (f : Format) → Of f → Type 0
Good number n = n < numbers
Good (string limit) bytes = (length bytes < limit) × (length bytes < numbers)
Good (maybe f) none = Unit
Good (maybe f) (some v) = Good f v
Good (pair f g) v = Good f v.0 × Good g v.1
Good (choice n fs) v = (v.0 < n) × Good (fs v.0) v.1
Good (entries limit) l = (length l < numbers) × Small l × Above 0 l × (length (listing l) ≤ limit)
