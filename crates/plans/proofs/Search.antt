-- A search for a bound, from the search for a key: end is a case of its own, and what lies below a key lies at the key before it or lower.
-- Assumes nothing.
use mathlib.Core.Path.{refl}
use mathlib.Core.List.{List}
use Prim.Native.Nat.{ℕ, ◌^◌, ◌<◌}
use native.Mathlib.Omega.{arith}
use lib.ListN.{get_or}
use borrow.Author.Tests.{lt-ltb, le-ltb}
use Rattle.keys.specs.declared.Bound.TheVariants.{Key, End}
use Rattle.columns.specs.Column.{Upto}
use Rattle.plans.specs.Plan.{Through}

pub through_key : {lows : List ℕ} {n r : ℕ} (k : ℕ) → k < 2 ^ 64 → Upto lows n k r → Through lows n (Key k) r
through_key {lows} k s u = record {
  small = s;
  within = u.within;
  low = λ l r i h. le-ltb k (get_or lows i 0) ((u.splits l r).low i h);
  high = λ l r i h q. lt-ltb k (get_or lows i 0) ((u.splits l r).high i h q);
}

pub through_end : (lows : List ℕ) (n : ℕ) → Through lows n End n
through_end lows n = record { small = omega arith; within = omega arith; low = λ l r i h. refl; high = λ l r i h q. absurd (omega arith) }
