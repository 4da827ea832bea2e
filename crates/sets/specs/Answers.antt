-- What the tests on the value of a Set answer.
-- Assumes nothing.
use Rattle.std.specs.Prelude.{◌≡◌, Bool, true, false, List, ℕ, Option}
use Rattle.format.specs.declared.Part.{Part}
use Rattle.message.specs.View.{value_of, ValueIn}
use Rattle.protocol.specs.Process.{long}

-- the value stands in the datagram and is not too long
pub record Sound (s : List ℕ) (v : Option Part) : Type 0 where
  pub inside : ValueIn s v
  pub short : long (value_of s v) ≡ false

-- r says whether it does and is
pub record IsSound (s : List ℕ) (v : Option Part) (r : Bool) : Type 0 where
  pub yes : r ≡ true → Sound s v
  pub other : r ≡ false → ValueIn s v → long (value_of s v) ≡ true

-- r says whether the value is longer than a table keeps
pub record TooLong (v : Option Part) (r : Bool) : Type 0 where
  pub is : (s : List ℕ) → ValueIn s v → r ≡ long (value_of s v)
