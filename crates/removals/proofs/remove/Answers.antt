-- `removals::remove` meets its contract. The range's entries are a span of places.
-- Assumes nothing.
use Rattle.keys.specs.Bound.{holds}
use Rattle.records.proofs.Ranges.{range_in, range_out}
use Rattle.removals.proofs.remove.Goals as goal

pub returns : goal.returns
returns c =
    let a = c.args in
    let i = c.before-i in
    let j = c.before-j in
    record {
      is = λ lens values T K. c.span.ensures.is lens values T (holds a.lo a.hi) K
          (range_in a.keys.now a.n c.if-keys-n.false K.listed.rising a.lo a.hi i.result j.result i.ensures j.ensures)
          (range_out a.keys.now a.n c.if-keys-n.false K.listed.rising a.lo a.hi i.result j.result i.ensures j.ensures);
    }
