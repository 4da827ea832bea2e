-- `shards::all_mine` meets its contract.
-- Assumes nothing.
use mathlib.Core.Path.{sym, ◌∙◌}
use Rattle.shards.proofs.all_mine.Goals as goal

pub returns-then-some_key : goal.returns-then-some_key
returns-then-some_key c =
    let s = c.some_key.ensures in
    let t = c.if-some_key.true in
    let w = c.whole.ensures in
    record {
      yes = λ e. (sym s.is ∙ t, s.low t, s.high t, λ f K. w.all f K e);
      no = λ e b f K. let o = w.other f K e in (o.0, o.2, o.3);
    }
