-- `writing::number` meets its contract.
-- Assumes nothing.
use mathlib.Core.Path.{◌∙◌}
use Rattle.format.proofs.Numbers.{le_bytes}
use Rattle.writing.proofs.number.Goals as goal

pub returns : goal.returns
returns c = rw (← (c.to_le_bytes.ensures ∙ le_bytes c.args.n)) c.copy.ensures
