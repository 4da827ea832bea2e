-- `writing::byte` meets its contract.
-- Assumes nothing.
use mathlib.Core.List.{[], ◌∷◌}
use native.Mathlib.Omega.{arith}
use Rattle.memory.proofs.Copies.{copied_yes}
use lib.Seq.{sets-eq}
use Rattle.writing.proofs.byte.Goals as goal

pub returns : goal.returns
returns c = copied_yes _ _ _ _ (omega (arith, c.if-d-at.false)) (sets-eq (_ ∷ []) c.args.d.now c.args.at (omega (arith, c.if-d-at.false)))
