-- `removals::span` meets its contract. The keys are cut, the slots sunk, and values stay.
-- Assumes nothing.
use Rattle.records.proofs.Slotted.{keeps_span}
use Rattle.removals.proofs.span.Goals as goal

pub returns : goal.returns
returns c =
    let a = c.args in
    let p = c.requires in
    let k = (c.cut.ensures.done p.0 p.1 p.2).1 in
    let s = c.sink in
    record {
      is = λ lens values T t K yes no. rw k
          (keeps_span a.keys.now a.slots.now lens values a.n T K a.i a.j p.0 p.1 t yes no s.new.slots s.auto.slots
          (s.ensures.keeps K.slotted) s.ensures.before s.ensures.after);
    }
