-- `stores::add` meets its contract. The value goes into the first free slot, and key and slot are inserted at place p.
-- Assumes nothing.
use Prim.Native.Nat.{◌≤◌, ◌<◌}
use native.Mathlib.Omega.{arith}
use native.Mathlib.Numerals.{add-one}
use lib.ListN.{length}
use Rattle.records.proofs.Slotted.{keeps_add}
use Rattle.stores.proofs.add.Goals as goal

pub returns : goal.returns
returns c =
    let a = c.args in
    let w = c.write in
    let f = w.ensures.done c.if-not-write.false in
    let nl : a.n < length a.slots.now = f.0.place in
    let pn : a.p ≤ a.n = c.requires.1 in
    let nk : a.n < length a.keys.now = omega (arith, c.requires.0.fits_keys) in
    let ik = (c.insert.ensures.done pn nk).1 in
    let is = (c.insert-2.ensures.done pn nl).1 in
    record {
      is = λ T K P new. rw (add-one, ik, is, f.1, f.2)
          (keeps_add a.keys.now a.slots.now a.lens.now a.values.now a.n T K a.key a.value.now c.requires.2 a.p nl P new);
    }
