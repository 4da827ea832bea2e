-- `entries::store` meets its contract. Each entry finds a place since all do.
-- Assumes nothing.
use mathlib.Core.Path.{◌≡◌}
use Prim.Native.Nat.{◌<◌}
use native.Mathlib.Omega.{arith}
use native.Mathlib.Numerals.{add-one}
use lib.ListN.{length, get_or}
use Rattle.records.specs.Table.{storing}
use Rattle.memory.specs.Bytes.{part}
use Rattle.records.specs.Memory.{value_at}
use Rattle.records.proofs.Stores.{room_for}
use Rattle.entries.proofs.store.Goals as goal

pub loop-t-preserved : goal.loop-t-preserved
loop-t-preserved c =
    let l = c.loop-t in
    let a = c.args in
    let tm : l.t < a.m = c.loop-t-test.true in
    λ T K E S s Z b.
    let k = l.invariant T K E S s Z b in
    rw add-one
    (c.store_one-now.ensures.is (storing l.t (λ i. get_or a.ks.now i 0) (λ i. part a.bytes.now (get_or a.ats.now i 0) (get_or a.ls.now i 0)) T) k
    (E.inside l.t tm) (S l.t tm)
    (λ none.
    room_for l.t a.m (λ i. get_or a.ks.now i 0) (λ i. part a.bytes.now (get_or a.ats.now i 0) (get_or a.ls.now i 0)) T tm l.now s
    ((λ i. get_or l.keys i 0), value_at l.slots l.lens l.values, k.listed) Z (length l.slots) k.shape.count (omega arith) none))

pub returns : goal.returns
returns c =
    let l = c.loop-t in
    let e : l.t ≡ c.args.m = omega arith in
    record { is = λ T K E S s Z b. rw (← e) (l.invariant T K E S s Z b) }
