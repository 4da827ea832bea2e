-- `exporting_audit::audit` meets its contract.
-- Assumes nothing.
use mathlib.Core.Path.{refl}
use native.Mathlib.Omega.{arith}
use Rattle.exporting_audit.proofs.Laws.{audited}
use Rattle.exporting_audit.proofs.audit.Goals as goal

pub returns-then-numbers-lt-WORDS : goal.returns-then-numbers-lt-WORDS
returns-then-numbers-lt-WORDS c =
    record { is = λ h. absurd (omega (arith, h, c.if-numbers-lt-WORDS.true)); short = λ h. refl }

pub returns : goal.returns
returns c =
    audited (omega (arith, c.if-numbers-lt-WORDS.false)) c.load-k.ensures c.audit.ensures c.audited.ensures
