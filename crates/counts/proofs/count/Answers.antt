-- `counts::count` meets its contract. The range's entries stand from i up to j, or there are none.
-- Assumes nothing.
use mathlib.Core.Path.{◌≡◌}
use mathlib.Core.Logic.{⊎_elim}
use mathlib.Core.List.{List}
use Prim.Native.Nat.{ℕ, ◌+◌, ◌-◌, ◌≤◌}
use native.Mathlib.Omega.{arith}
use lib.ListN.{get_or}
use Rattle.keys.specs.declared.Bound.{Bound}
use Rattle.keys.specs.Bound.{holds}
use Rattle.columns.proofs.Cases.{lt_or_ge}
use Rattle.searches.specs.Search.{Before}
use Rattle.records.specs.Memory.{value_at}
use Rattle.records.proofs.Tables.{window_listed, untouched_listed, size_span}
use Rattle.records.proofs.Slotted.{in_keys}
use Rattle.records.proofs.Ranges.{range_in, range_out, window_none}
use Rattle.counts.specs.Answers.{Counted}
use Rattle.counts.proofs.count.Goals as goal

module _ (keys : List ℕ) (n : ℕ) (lo hi : Bound) (i j : ℕ) (I : Before keys n lo i) (J : Before keys n hi j) where
  none : j ≤ i → Counted keys n lo hi 0
  none h =
      let e : n - 0 ≡ n = omega arith in
      record {
        most = omega arith;
        rest = λ slots lens values T K. (
          (λ x. get_or keys x 0),
          value_at slots lens values,
          rw e
              (untouched_listed n (λ x. get_or keys x 0) (value_at slots lens values) T K.listed (holds lo hi)
              (λ x q. range_out keys n (in_keys _ _ _ _ _ _ K) K.listed.rising lo hi i j I J x q (λ p r. omega arith))),
        );
        is = λ slots lens values T K. (
          (λ x. 0),
          value_at slots lens values,
          window_none n (λ x. get_or keys x 0) (value_at slots lens values) T K.listed (holds lo hi)
              (λ x q. range_out keys n (in_keys _ _ _ _ _ _ K) K.listed.rising lo hi i j I J x q (λ p r. omega arith))
              (λ x. 0)
              (value_at slots lens values),
        );
      }

  some : i ≤ j → Counted keys n lo hi (j - i)
  some h = record {
    most = omega (arith, J.least);
    rest = λ slots lens values T K. size_span n (λ x. get_or keys x 0) (value_at slots lens values) T K.listed i j h J.least (holds lo hi)
        (range_in keys n (in_keys _ _ _ _ _ _ K) K.listed.rising lo hi i j I J)
        (range_out keys n (in_keys _ _ _ _ _ _ K) K.listed.rising lo hi i j I J);
    is = λ slots lens values T K. (
      (λ y. get_or keys (i + y) 0),
      (λ y. value_at slots lens values (i + y)),
      window_listed n (λ x. get_or keys x 0) (value_at slots lens values) T K.listed i j h J.least (holds lo hi)
          (range_in keys n (in_keys _ _ _ _ _ _ K) K.listed.rising lo hi i j I J)
          (range_out keys n (in_keys _ _ _ _ _ _ K) K.listed.rising lo hi i j I J),
    );
  }

pub returns : goal.returns
returns c =
    let a = c.args in
    let i = c.before-i in
    let j = c.before-j in
    rw c.saturating_sub.ensures
    (⊎_elim
    (λ h. some a.keys.now a.n a.lo a.hi i.result j.result i.ensures j.ensures (omega arith))
    (λ h. let e : j.result - i.result ≡ 0 = omega arith in rw e (none a.keys.now a.n a.lo a.hi i.result j.result i.ensures j.ensures h))
    (lt_or_ge i.result j.result))
