-- `getting::value` meets its contract.
-- Assumes nothing.
use Rattle.getting.proofs.Laws.{value_found, value_none}
use Rattle.getting.proofs.value.Goals as goal

pub returns-in_default-clause-is : goal.returns-in_default-clause-is
returns-in_default-clause-is c = value_none c.in_default.ensures c.reply.ensures.is

pub returns-clause-is : goal.returns-clause-is
returns-clause-is c = value_found c.in-Some.ensures c.reply-2.ensures.is
