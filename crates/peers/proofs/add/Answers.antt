-- `peers::add` meets its contract.
-- Assumes nothing.
use mathlib.Core.Path.{refl}
use Prim.Native.Nat.{◌<◌}
use native.Mathlib.Omega.{arith}
use lib.ListN.{length}
use Rattle.peers.proofs.Laws.{place_fits, keeps_joined}
use Rattle.peers.proofs.add.Goals as goal

pub returns : goal.returns
returns c =
    let a = c.args in
    let f = place_fits a.n _ a.width (length a.names.now) c.if-room-n.false c.room.ensures.2 in
    let one : a.n < length a.lens.now = omega (arith, c.if-room-n.false, c.room.ensures.1) in
    let short = c.if-width-address.false in
    record { is = (refl, λ N K new. keeps_joined a.lens.now a.names.now a.width a.n N a.address.now K new short one f _ _ refl (c.copy.ensures.done (omega (arith, f, short))).1) }
