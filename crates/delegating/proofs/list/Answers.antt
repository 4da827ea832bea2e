-- `delegating::list` meets its contract.
-- Assumes nothing.
use Prim.Native.Nat.{◌+◌, ◌≤◌}
use native.Mathlib.Omega.{arith}
use lib.ListN.{length}
use Rattle.format.specs.Number.{width, digits}
use Rattle.format.proofs.Numbers.{length_digits}
use Rattle.delegating.proofs.Entered.{listing_put}
use Rattle.delegating.proofs.list.Goals as goal

pub returns : goal.returns
returns c =
    let a = c.args in
    let f : a.at + length (digits width a.m) ≤ length a.d.now = omega (arith, c.requires.1, length_digits width a.m) in
    listing_put a.keys.now a.ats.now a.lens.now a.bytes.now a.m c.requires.0 a.at a.d.now _ _ c.requires.1 (c.number.ensures.done f).1 c.entries.ensures
