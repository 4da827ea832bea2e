-- `ranges::pick` meets its contract. The range's entries stand from i up to j, and `note` writes them down.
-- Assumes nothing.
use mathlib.Core.Path.{◌≡◌, refl, sym, ◌∙◌}
use mathlib.Core.List.{List}
use mathlib.Core.Option.{some-injective}
use Prim.Native.Nat.{ℕ, ◌+◌, ◌-◌, ◌<◌}
use native.Mathlib.Omega.{arith}
use lib.ListN.{get_or}
use Rattle.keys.specs.declared.Bound.{Bound}
use Rattle.keys.specs.Bound.{holds}
use Rattle.records.specs.Table.{Table, within, Listed, Size}
use Rattle.memory.specs.Bytes.{part}
use Rattle.records.specs.Memory.{value_at, Keeps}
use Rattle.searches.specs.Search.{Before}
use Rattle.ranges.specs.Inner.{Noted}
use Rattle.records.proofs.Tables.{window_listed, listed_cong}
use Rattle.records.proofs.Slotted.{in_keys}
use Rattle.records.proofs.Ranges.{range_in, range_out}
use Rattle.ranges.proofs.pick.Goals as goal

module _ (keys slots lens values : List ℕ) (n : ℕ) (lo hi : Bound) (i j : ℕ) (I : Before keys n lo i) (J : Before keys n hi j) (ij : i < j) (T : Table)
    (K : Keeps keys slots lens values n T)
  where
    -- the range's entries where they stand
    window : Listed (j - i) (λ y. get_or keys (i + y) 0) (λ y. value_at slots lens values (i + y)) (within lo hi T)
    window =
        window_listed n (λ x. get_or keys x 0) (value_at slots lens values) T K.listed i j (omega arith) J.least (holds lo hi)
        (range_in keys n (in_keys keys slots lens values n T K) K.listed.rising lo hi i j I J) (range_out keys n (in_keys keys slots lens values n T K) K.listed.rising lo hi i j I J)

    more : (m : ℕ) → m < j - i → (s : ℕ) × Size (within lo hi T) s × (m < s)
    more m h = (j - i, ((λ y. get_or keys (i + y) 0), (λ y. value_at slots lens values (i + y)), window), h)

    -- .. and as they were written down
    noted : (ks ats ls : List ℕ) → Noted keys slots lens values n i (j - i) ks ats ls
        → Listed (j - i) (λ y. get_or ks y 0) (λ y. part values (get_or ats y 0) (get_or ls y 0)) (within lo hi T)
    noted ks ats ls N =
        listed_cong (j - i) (λ y. get_or keys (i + y) 0) (λ y. get_or ks y 0) (λ y. value_at slots lens values (i + y))
        (λ y. part values (get_or ats y 0) (get_or ls y 0)) (within lo hi T) (within lo hi T) (λ y q. sym (N.key y q)) same (λ k. refl) window
      where
        same : (y : ℕ) → y < j - i → value_at slots lens values (i + y) ≡ part values (get_or ats y 0) (get_or ls y 0)
        same y q =
            let b : i + y < n = omega (arith, J.least) in
            some-injective _ _ (sym (K.listed.has (i + y) b) ∙ N.value T K y q)

pub returns-then-to_keys-m : goal.returns-then-to_keys-m
returns-then-to_keys-m c =
    let a = c.args in
    let i = c.before-first in
    let j = c.before-last in
    record {
      is = (
        refl,
        refl,
        refl,
        λ T K.
            more a.keys.now a.slots.now a.lens.now a.values.now a.n a.lo a.hi i.result j.result i.ensures j.ensures c.if-last-first.false T K
            _ (omega (arith, c.then-to_keys-m.either)),
      );
    }

pub returns : goal.returns
returns c =
    let a = c.args in
    let i = c.before-first in
    let j = c.before-last in
    let n = c.note in
    record {
      is = (
        omega arith,
        n.ensures.inside,
        λ T K.
            noted a.keys.now a.slots.now a.lens.now a.values.now a.n a.lo a.hi i.result j.result i.ensures j.ensures c.if-last-first.false T K
            _ _ _ n.ensures,
      );
    }
