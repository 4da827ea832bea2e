-- `delegates::columns` meets its contract. The loop's invariant: the first i entries are written down, and the others stand from `at` on.
-- Assumes nothing.
use mathlib.Core.Bool.{false≢true}
use native.Mathlib.Omega.{arith}
use Rattle.delegates.proofs.Rows.{going_there, going_long, going_more}
use Rattle.delegates.proofs.columns.Goals as goal

pub returns-in_default : goal.returns-in_default
returns-in_default c =
    record {
      yes = λ e. absurd (false≢true e);
      no = λ e fk fa fl next R. absurd (going_there c.loop-i.invariant c.loop-i-test.true next R c.in_default.ensures);
    }

pub returns-then-part-gt-VALUE_MAX : goal.returns-then-part-gt-VALUE_MAX
returns-then-part-gt-VALUE_MAX c =
    record {
      yes = λ e. absurd (false≢true e);
      no = λ e fk fa fl next R. going_long c.loop-i.invariant c.loop-i-test.true c.in-Some.ensures c.if-part-gt-VALUE_MAX.true next R;
    }

pub loop-i-preserved : goal.loop-i-preserved
loop-i-preserved c =
    going_more c.loop-i.invariant c.loop-i-test.true c.in-Some.ensures (omega arith) (omega arith) (omega arith) (omega arith)
