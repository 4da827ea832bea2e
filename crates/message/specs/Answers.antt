-- What reading a datagram answers, and what writing one does.
-- Assumes nothing.
use Rattle.std.specs.Prelude.{◌≡◌, List, ℕ, ◌<◌, length, Option, Some, None, Result, Ok, Err}
use Rattle.memory.specs.Bytes.{placed}
use Rattle.message.specs.Message.{Datagram, message, ack}
use Rattle.message.specs.Table.{written, Valid}
use Rattle.message.specs.View.{bytes_of, body_of, PartIn, BodyIn}
use Rattle.message.specs.declared.Parsed.{Parsed}
use Rattle.message.specs.declared.Parsed.TheVariants.{Message, Ack}
use Rattle.message.specs.declared.Refused.{Refused}
use Rattle.message.specs.declared.Refused.TheVariants.{NoRoom, Invalid}

-- The bytes are those of the message that the view describes, or of no message at all. There is never a second message with the same bytes
-- (law `one_message`)
abbrev pub ParseCases : List ℕ → Option Parsed → Type 0
ParseCases s (Some (Message n a b)) =
    Valid (message n (bytes_of s a) (body_of s b)) × (written (message n (bytes_of s a) (body_of s b)) ≡ s) × PartIn s a × BodyIn s b
ParseCases s (Some (Ack n)) = Valid (ack n) × (written (ack n) ≡ s)
ParseCases s None = (m : Datagram) → Valid m → written m ≡ s → ⊥

pub record AfterParse (s : List ℕ) (r : Option Parsed) : Type 0 where
  pub is : ParseCases s r

-- The bytes of the message stand at the front of what was lent, or they do not fit it, or the message may not be written. A refusal leaves what
-- was lent as it was
abbrev pub WriteCases : Datagram → (d : List ℕ) → Result ℕ Refused → (d' : List ℕ) → Type 0
WriteCases m d (Ok n) d' = Valid m × (n ≡ length (written m)) × (d' ≡ placed d 0 (written m))
WriteCases m d (Err NoRoom) d' = (d' ≡ d) × (length d < length (written m))
WriteCases m d (Err Invalid) d' = (d' ≡ d) × (Valid m → ⊥)

pub record AfterWrite (m : Datagram) (d : List ℕ) (r : Result ℕ Refused) (d' : List ℕ) : Type 0 where
  pub is : WriteCases m d r d'
