-- The bytes of a list of entries, from the lengths of its values alone.
-- Assumes nothing.
use Rattle.std.specs.Prelude.{◌≡◌, List, ℕ, zero, suc, ◌+◌, ◌≤◌, ◌<◌, length, get_or, Option, Some, None}
use Rattle.limits.specs.Limits.{bytes_max}
use Rattle.format.specs.Number.{width}

-- the bytes that the m entries from place i on take in a message: for each a key, a length and a value
abbrev pub sizes : List ℕ → ℕ → ℕ → ℕ
sizes ls i zero = 0
sizes ls i (suc m) = width + width + get_or ls i 0 + sizes ls (suc i) m

-- how many bytes the list of m entries takes, or that it takes too many for a message
abbrev pub SizeCases : List ℕ → ℕ → Option ℕ → Type 0
SizeCases ls m (Some n) = (n ≡ width + sizes ls 0 m) × (n ≤ bytes_max)
SizeCases ls m None = bytes_max < width + sizes ls 0 m

pub record AfterSize (ls : List ℕ) (m : ℕ) (r : Option ℕ) : Type 0 where
  pub is : m ≤ length ls → SizeCases ls m r
