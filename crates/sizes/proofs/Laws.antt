-- The laws of the bytes of a list of entries.
-- Assumes nothing.
use mathlib.Core.Path.{◌≡◌, refl}
use mathlib.Core.List.{List}
use Prim.Native.Nat.{ℕ, zero, suc, ◌+◌, ◌-◌, ◌<◌}
use native.Mathlib.Omega.{arith}
use lib.ListN.{get_or}
use Rattle.format.specs.Number.{width}
use Rattle.sizes.specs.Sizes.{sizes}

-- what is left of the sizes, once one was counted
pub sizes_step : (ls : List ℕ) (i k : ℕ) → 0 < k → sizes ls i k ≡ width + width + get_or ls i 0 + sizes ls (i + 1) (k - 1)
sizes_step ls i zero h = absurd (omega arith)
sizes_step ls i (suc k) h =
    let e : suc k - 1 ≡ k = omega arith in
    let o : i + 1 ≡ suc i = omega arith in
    rw (e, o) refl
