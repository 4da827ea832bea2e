-- `turning::turn` meets its contract.
-- Assumes nothing.
use mathlib.Core.Path.{refl, sym}
use native.Mathlib.Omega.{arith}
use Rattle.turning.proofs.Laws.{not_lent, receives, processes, repeats}
use Rattle.turning.proofs.turn.Goals as goal
use Rattle.turning.proofs.turn.Goals.{then-ack-via-then-ack, then-ack-via-else-ack+then-out-places}

pub returns-then-ack : goal.returns-then-ack
returns-then-ack c =
    elim c.then-ack.branch [
      | then-ack-via-then-ack w ↦ not_lent (λ L. omega (arith, L.ack_fits, w.if-ack.true)) c.unfit.ensures
      | then-ack-via-else-ack+then-out-places w ↦ not_lent (λ L. omega (arith, L.out_fits, w.if-out-places.true)) c.unfit.ensures
    ]

pub returns-then-kind-eq0 : goal.returns-then-kind-eq0
returns-then-kind-eq0 c =
    receives (record { ack_fits = c.if-ack.false; out_fits = c.if-out-places.false }) c.if-kind-eq0.true (c.arrive.ensures c.args.lens.now c.args.values.now c.args.mail.now)

pub returns-then-kind-eq1 : goal.returns-then-kind-eq1
returns-then-kind-eq1 c =
    let s = c.process-done.ensures.stays in
    let P =
    rw (
      ← c.lows-1.given.1.1 (sym s.0.0.0),
      ← c.owners-1.given.1.1 (sym s.0.1.0),
      ← c.keys-1.given.1.1 (sym s.1.0.0),
      ← c.slots-1.given.1.1 (sym s.1.1.0),
      ← c.lens-1.given.1.1 (sym s.2.0.0),
      ← c.values-1.given.1.1 (sym s.2.1.0),
      ← c.counts-then-kind-eq1-1.given.1.1 (sym s.3.0.0),
      ← c.places-then-kind-eq1-1.given.1.1 (sym s.3.1.0),
    ) at c.process-done.ensures.is in
    processes (record { ack_fits = c.if-ack.false; out_fits = c.if-out-places.false }) c.if-kind-eq1.true P c.over.ensures refl

pub returns : goal.returns
returns c =
    repeats (record { ack_fits = c.if-ack.false; out_fits = c.if-out-places.false }) c.if-kind-eq0.false c.if-kind-eq1.false c.again.ensures
