-- `confirming::confirm` meets its contract.
-- Assumes nothing.
use Prim.Native.Nat.{◌/◌, ◌<◌}
use native.Mathlib.Omega.{arith}
use lib.ListN.{length}
use Rattle.confirming.proofs.Laws.{told, keeps_confirmed, ahead_kept}
use Rattle.confirming.proofs.confirm.Goals as goal

pub returns : goal.returns
returns c =
    let a = c.args in
    let h : a.peer < length a.counts.now / 3 = omega (arith, c.if-counts-peer.false) in
    record {
      is = λ mail size n P K q new.
          keeps_confirmed _ _ mail size n P K _ _ q new _ _ (told a.counts.now a.peer a.number h _ c.max.ensures) (c.release.ensures (ahead_kept K q));
    }
