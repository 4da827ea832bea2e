-- `entries::replace` meets its contract. What is left is counted first, so after the range is removed every entry finds a place.
-- Assumes nothing.
use mathlib.Core.Path.{refl}
use native.Mathlib.Omega.{arith}
use lib.ListN.{get_or}
use Rattle.records.specs.Table.{removed}
use Rattle.memory.specs.Bytes.{part}
use Rattle.entries.proofs.replace.Goals as goal

pub returns-then-slots-left : goal.returns-then-slots-left
returns-then-slots-left c =
    let a = c.args in
    let p = c.in_ok-check.ensures.is.0 in
    let l = c.left in
    record {
      is = (
        refl,
        refl,
        refl,
        refl,
        λ T K val.
            (l.result, l.ensures.is a.slots.now a.lens.now a.values.now T K p.fits_keys p.rising val, c.if-slots-left.true),
      );
    }

pub returns : goal.returns
returns c =
    let a = c.args in
    let p = c.in_ok-check.ensures.is in
    let l = c.left in
    let r = c.remove-rest in
    let s = c.store-now in
    record {
      is = λ T K. s.ensures.is (removed a.lo a.hi T) (r.ensures.is a.lens.now a.values.now T K) p.0 p.1 l.result
          (l.ensures.is a.slots.now a.lens.now a.values.now T K p.0.fits_keys p.0.rising
          (λ i. part a.bytes.now (get_or a.ats.now i 0) (get_or a.ls.now i 0)))
          (omega (arith, c.if-slots-left.false, r.auto.slots));
    }
