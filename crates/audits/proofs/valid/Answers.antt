-- `audits::valid` meets its contract. If no test fails, the table is the one that the entries make.
-- Assumes nothing.
use mathlib.Core.List.{List}
use Prim.Native.Nat.{ℕ, ◌<◌}
use native.Mathlib.Omega.{arith}
use lib.ListN.{length, get_or}
use Rattle.records.specs.Memory.{value_at}
use Rattle.records.specs.Table.{empty, storing}
use Rattle.records.proofs.Laws.{made_listed}
use Rattle.audits.proofs.valid.Goals as goal

pub returns : goal.returns
returns c =
    let a = c.args in
    let f = c.fits in
    let r = c.rises in
    let p = c.permuted in
    let s = c.all_short in
    let shape = f.ensures.yes c.if-not-fits.false in
    let rising = (r.ensures.yes c.if-not-rises.false).1 in
    let key : ℕ → ℕ = λ i. get_or a.keys.now i 0 in
    let val : ℕ → List ℕ = value_at a.slots.now a.lens.now a.values.now in
    record {
      yes = λ e. (
        storing a.n key val empty,
        record {
          shape = shape;
          slotted = p.ensures.yes c.if-not-permuted.false;
          short = s.ensures.yes e;
          listed = made_listed a.n key val rising;
        },
      );
      no = λ e T k.
          let place : (i : ℕ) → i < a.n → i < length a.slots.now = λ i h. omega (arith, shape.count) in
          s.ensures.no e (λ i h. omega (arith, k.slotted.below i (place i h), shape.fits_lens)) k.short;
    }
