-- `delegation::beyond` meets its contract. The bounds passed lie at or below the key, since the last of them does; where one lies above it, those between
-- are searched.
-- Assumes nothing.
use mathlib.Core.Path.{◌≡◌, ap}
use Prim.Native.Nat.{ℕ, ◌+◌, ◌-◌, ◌≤◌, ◌<◌}
use native.Mathlib.Omega.{arith}
use lib.ListN.{get_or}
use Rattle.delegation.proofs.Far.{found}
use Rattle.delegation.proofs.beyond.Goals as goal

pub returns-then-key-lows : goal.returns-then-key-lows
returns-then-key-lows c =
    let a = c.args in
    let k : ℕ = c.loop-known.known in
    let far : ℕ = k + c.min.result in
    let m : ℕ = far - 1 - k in
    let some : k < a.end = c.loop-known-test.true in
    let e : k + m ≡ far - 1 = omega (arith, c.min.ensures, c.max.ensures) in
    let end : far ≤ a.end = omega (arith, c.min.ensures) in
    found a.lows.now a.end a.key k m (omega (arith, c.requires.1)) (omega arith) c.upto.result (λ l. c.loop-known.invariant.1)
    (omega (arith, ap (λ (x : ℕ). get_or a.lows.now x 0) e, c.if-key-lows.true)) c.upto.ensures
