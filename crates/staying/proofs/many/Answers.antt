-- `staying::many` meets its contract.
-- Assumes nothing.
use borrow.Author.Tests.{leb-true, leb-false}
use Rattle.staying.proofs.many.Goals as goal

pub returns : goal.returns
returns c = record { yes = λ e. leb-true _ _ e; no = λ e. leb-false _ _ e }
