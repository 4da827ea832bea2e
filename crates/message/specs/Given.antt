-- A value that is handed in where it stands, as a message has it.
-- Assumes nothing.
use Rattle.std.specs.Prelude.{List, ℕ, Option, Some, None}
use Rattle.std.proofs.Common.{Bor}
use Rattle.std.proofs.Math.Option.{Option as Maybe, none, some}

-- a value that is there, or none
abbrev pub given : Option (Bor (List ℕ)) → Maybe (List ℕ)
given (Some v) = some v.now
given None = none
