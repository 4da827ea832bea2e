-- `fronts::front_length` meets its contract.
-- Assumes nothing.
use mathlib.Core.Path.{sym}
use Rattle.fronts.proofs.Fronts.{length_front}
use Rattle.fronts.proofs.front_length.Goals as goal

pub returns : goal.returns
returns c = λ n t. sym (length_front n c.args.to.now t)
