-- What is done to one column of a change. The public contracts are in `delegation`'s `Map`; their callers need not read this.
-- Assumes nothing.
use Rattle.std.specs.Prelude.{Bool, true, false, List, ℕ, ◌+◌, ◌-◌, ◌≤◌, length}
use Rattle.columns.specs.Column.{inserted}
use Rattle.plans.specs.declared.Plan.{Plan}
use Rattle.plans.specs.Plan.{count}

-- v put before the element at `at` of the first n, or not
abbrev pub put : Bool → List ℕ → ℕ → ℕ → ℕ → List ℕ
put true c n at v = inserted c n at v
put false c n at v = c

-- a column of n has room for the change
pub record Editable (c : List ℕ) (n : ℕ) (p : Plan) : Type 0 where
  pub ordered : p.first ≤ p.last
  pub within : p.last ≤ n
  pub fits : n ≤ length c
  pub room : p.first + count p.low + count p.high + (n - p.last) ≤ length c
