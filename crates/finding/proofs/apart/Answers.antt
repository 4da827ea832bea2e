-- `finding::apart` meets its contract.
-- Assumes nothing.
use borrow.Author.Tests.{eqb-false, not-true}
use Rattle.finding.proofs.Laws.{numbers_differ}
use Rattle.finding.proofs.apart.Goals as goal

pub returns : goal.returns
returns c = λ t e. numbers_differ _ _ _ _ c.in-Some.ensures c.in-Some-number.ensures (eqb-false _ _ (not-true _ t)) e
