-- A message is written in two parts: the front, which is the same for every kind, and the fields of its body.
-- Assumes nothing.
use Rattle.std.specs.Prelude.{◌≡◌, List, [], ◌∷◌, ◌++◌, ℕ, ◌+◌, ◌≤◌, ◌<◌, length, Result, Ok, Err}
use Rattle.limits.specs.Limits.{bytes_max}
use Rattle.memory.specs.Bytes.{placed}
use Rattle.format.specs.Number.{width, digits}
use Rattle.format.specs.Format.{Format, Of, counted, encode, Good}
use Rattle.message.specs.declared.Refused.{Refused}
use Rattle.message.specs.declared.Refused.TheVariants.{NoRoom, Invalid}

-- the byte of a Message, its number and destination, and the byte t of its body
abbrev pub front : ℕ → List ℕ → ℕ → List ℕ
front n to t = ((0 ∷ digits width n) ++ counted to) ++ (t ∷ [])

-- the front is written and leaves room for `more` bytes, or it all does not fit, or the destination is too long
abbrev pub StartCases : ℕ → List ℕ → ℕ → ℕ → (d : List ℕ) → Result ℕ Refused → (d' : List ℕ) → Type 0
StartCases n to t more d (Ok p) d' =
    (p ≡ length (front n to t)) × (length to < bytes_max) × (p + more ≤ length d) × (d' ≡ placed d 0 (front n to t))
StartCases n to t more d (Err NoRoom) d' = (d' ≡ d) × (length d < length (front n to t) + more)
StartCases n to t more d (Err Invalid) d' = (d' ≡ d) × (bytes_max ≤ length to)

pub record AfterStart (n : ℕ) (to : List ℕ) (t more : ℕ) (d : List ℕ) (r : Result ℕ Refused) (d' : List ℕ) : Type 0 where
  pub is : StartCases n to t more d r d'

-- a message whose body has the byte t and the fields v of the format f is written, or refused
abbrev pub FieldsCases : (f : Format) → Of f → ℕ → List ℕ → ℕ → (d : List ℕ) → Result ℕ Refused → (d' : List ℕ) → Type 0
FieldsCases f v n to t d (Ok k) d' =
    (length to < bytes_max) × Good f v × (k ≡ length (front n to t ++ encode f v)) × (d' ≡ placed d 0 (front n to t ++ encode f v))
FieldsCases f v n to t d (Err NoRoom) d' = (d' ≡ d) × (length d < length (front n to t ++ encode f v))
FieldsCases f v n to t d (Err Invalid) d' = (d' ≡ d) × (length to < bytes_max → Good f v → ⊥)

pub record AfterFields (f : Format) (v : Of f) (n : ℕ) (to : List ℕ) (t : ℕ) (d : List ℕ) (r : Result ℕ Refused) (d' : List ℕ) : Type 0 where
  pub is : FieldsCases f v n to t d r d'
