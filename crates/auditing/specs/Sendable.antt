-- The messages that wait may be written.
-- Assumes nothing.
use Rattle.std.specs.Prelude.{List, [], ◌∷◌, ℕ, suc}
use Rattle.message.specs.Message.{Address, Body, message}
use Rattle.message.specs.Table.{Valid}
use Rattle.protocol.specs.State.{Host}

-- messages to an address, with the numbers from x on
abbrev pub AllValid : ℕ → Address → List Body → Type 0
AllValid x a [] = Unit
AllValid x a (b ∷ l) = Valid (message x a b) × AllValid (suc x) a l

-- each message that waits, with its number, may be written
abbrev pub Sendable : Host → Type 0
Sendable h = (a : Address) → AllValid (suc (h.acknowledged a)) a (h.waiting a)
