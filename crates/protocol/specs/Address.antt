-- Addresses: byte strings, compared and looked up.
-- Assumes nothing.
use Rattle.std.specs.Prelude.{Bool, false, cond, ◌||◌, List, [], ◌∷◌, ◌++◌}
use Rattle.decoding.specs.Decode.{same}
use Rattle.message.specs.Message.{Address}

-- is the address on the list?
abbrev pub among : Address → List Address → Bool
among a [] = false
among a (b ∷ l) = same a b || among a l

-- the list with the address, at its end if it was not there
abbrev pub with_address : Address → List Address → List Address
with_address a l = cond (among a l) l (l ++ (a ∷ []))

-- f with v at the address a
abbrev pub at : {A : Type 0} → Address → A → (Address → A) → Address → A
at a v f x = cond (same x a) v (f x)
