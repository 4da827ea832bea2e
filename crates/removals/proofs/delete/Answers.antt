-- `removals::delete` meets its contract. A key that is found is a span of one place; any other has no entry.
-- Assumes nothing.
use mathlib.Core.Path.{◌≡◌, sym, ap, ◌∙◌}
use Prim.Native.Nat.{ℕ}
use native.Mathlib.Omega.{arith}
use borrow.Author.Tests.{eq-eqb, ne_eqb}
use lib.Dec.{eqb}
use lib.ListN.{get_or}
use Rattle.records.specs.Memory.{value_at}
use Rattle.records.proofs.Tables.{listed_apart}
use Rattle.removals.proofs.delete.Goals as goal

pub returns-in-Ok : goal.returns-in-Ok
returns-in-Ok c =
    let a = c.args in
    let i = c.in-Ok.i in
    let s = c.in-Ok.ensures.is in
    record {
      is = λ lens values T K. c.span.ensures.is lens values T (λ k. eqb k a.key) K
          (λ x p q. let e : x ≡ i = omega arith in eq-eqb (get_or a.keys.now x 0) a.key (ap (λ (t : ℕ). get_or a.keys.now t 0) e ∙ s.2))
          (λ x q o. ne_eqb (get_or a.keys.now x 0) a.key
          (λ e.
          let same : x ≡ i = listed_apart a.n (λ y. get_or a.keys.now y 0) (value_at a.slots.now lens values) T K.listed x i q s.0 (e ∙ sym s.2) in
          o (omega arith) (omega arith)));
    }
