-- `replying::reply` meets its contract.
-- Assumes nothing.
use mathlib.Core.Path.{refl}
use native.Mathlib.Omega.{arith}
use Rattle.sending.proofs.Laws.{no_name, unwritten, sent}
use Rattle.replying.proofs.reply.Goals as goal

pub returns-in_default-clause-is : goal.returns-in_default-clause-is
returns-in_default-clause-is c = no_name c.in_default.ensures

pub returns-in_default-reply-clause-is : goal.returns-in_default-reply-clause-is
returns-in_default-reply-clause-is c = unwritten c.in-Some.ensures c.in-Some-lies.ensures (λ n N K q. refl) _ c.in_default-reply.ensures

pub returns-clause-is : goal.returns-clause-is
returns-clause-is c = sent c.in-Some.ensures c.in-Some-lies.ensures (λ n N K q. refl) (omega arith) c.in-Ok.ensures c.post.ensures
