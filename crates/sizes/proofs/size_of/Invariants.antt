use mathlib.Core.Path.{◌≡◌}
use Prim.Native.Nat.{◌+◌, ◌-◌, ◌≤◌}
use Rattle.sizes.specs.Sizes.{sizes}
use Rattle.format.specs.Number.{width}
use Rattle.limits.specs.Limits.{bytes_max}
use Rattle.sizes.proofs.size_of.Given as goal

abbrev pub invariant-loop-len : goal.invariant-loop-len
invariant-loop-len l = (l.total ≤ bytes_max) × (l.total + sizes l.lens l.len-index (l.m - l.len-index) ≡ width + sizes l.lens 0 l.m)
