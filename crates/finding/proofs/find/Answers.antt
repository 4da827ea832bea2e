-- `finding::find` meets its contract.
-- Assumes nothing.
use mathlib.Core.Path.{◌≡◌, sym, ◌∙◌, subst}
use Prim.Native.Nat.{ℕ, suc, ◌≤◌, min}
use native.Mathlib.Omega.{arith}
use native.Mathlib.Nat.{le-min}
use Rattle.peers.specs.Names.{places}
use Rattle.peers.proofs.Laws.{keeps_places}
use Rattle.finding.proofs.find.Goals as goal

pub returns : goal.returns
returns c =
    let a = c.args in
    record {
      is = λ N K i h e.
          let r : c.room.result ≡ places a.lens.now a.names.now a.width = c.room.ensures.0 K.wide in
          let all : a.n ≤ c.room.result = subst (λ (x : ℕ). a.n ≤ x) (sym r) (keeps_places K) in
          let m : suc i ≤ min a.n c.room.result = le-min h (omega (arith, all)) in
          c.loop-i.invariant i (omega (arith, m, c.within-end.ensures.0, c.loop-i-test.false)) (K.short i h) (K.is i h ∙ e);
    }
