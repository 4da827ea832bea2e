-- `resending::all` meets its contract.
-- Assumes nothing.
use native.Mathlib.Omega.{arith}
use Rattle.std.proofs.lemmas.Result.{err_from_is_err_and}
use Rattle.delivery.proofs.Counting.{total_before}
use Rattle.resending.proofs.Laws.{written}
use Rattle.resending.proofs.all.Goals as goal

pub returns-in_err-at : goal.returns-in_err-at
returns-in_err-at c =
    let a = c.args in
    let l = c.loop-i in
    let p = err_from_is_err_and c.from_residual.result c.from_residual.ensures.1 in
    rw p.1 (record {
      is = λ mail size P K. omega (
        arith,
        l.invariant.0,
        c.in_err-at.ensures.is mail size a.n P K c.loop-i-test.true,
        written a.places.now mail l.out size l.at l.i P l.invariant.1 (l.invariant.4 mail size P K),
        total_before P l.i a.n c.loop-i-test.true,
      );
    })
