-- `redirecting::redirect` meets its contract.
-- Assumes nothing.
use mathlib.Core.Path.{ap}
use Rattle.message.specs.Message.{redirect}
use native.Mathlib.Omega.{arith}
use Rattle.sending.proofs.Laws.{no_name, no_other, unwritten, sent}
use Rattle.redirecting.proofs.redirect.Goals as goal

pub returns-in_default-clause-is : goal.returns-in_default-clause-is
returns-in_default-clause-is c = no_name c.in_default.ensures

pub returns-in_default-name-clause-is : goal.returns-in_default-name-clause-is
returns-in_default-name-clause-is c = no_other c.in_default-name.ensures (λ n q. q)

pub returns-in_default-redirect-clause-is : goal.returns-in_default-redirect-clause-is
returns-in_default-redirect-clause-is c =
    let o = c.in-Some-name.ensures in
    unwritten c.in-Some.ensures c.in-Some-lies.ensures (λ n N K q. ap (redirect c.args.key) (o.is.2 n N K q)) _ c.in_default-redirect.ensures

pub returns-clause-is : goal.returns-clause-is
returns-clause-is c =
    let o = c.in-Some-name.ensures in
    sent c.in-Some.ensures c.in-Some-lies.ensures (λ n N K q. ap (redirect c.args.key) (o.is.2 n N K q)) (omega arith) c.in-Ok.ensures c.post.ensures
