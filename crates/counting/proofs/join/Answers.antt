-- `counting::join` meets its contract.
-- Assumes nothing.
use mathlib.Core.Path.{◌≡◌, sym, ◌∙◌}
use Prim.Native.Nat.{◌*◌, ◌+◌, ◌<◌}
use native.Mathlib.Omega.{arith}
use lib.ListN.{length, get_or, set, length-set}
use mathlib.Core.Bool.{false≢true}
use lib.Seq.{get_or-set_same, get_or-set_other}
use Rattle.delivery.proofs.Laws.{keeps_joined}
use Rattle.counting.proofs.join.Goals as goal

pub returns : goal.returns
returns c =
    let a = c.args in
    let l = a.counts.now in
    let n = a.n in
    let one = set l (n * 3) 0 in
    let two = set one (n * 3 + 1) 0 in
    let all = set two (n * 3 + 2) 0 in
    let long : length all ≡ length l = length-set two (n * 3 + 2) 0 ∙ length-set one (n * 3 + 1) 0 ∙ length-set l (n * 3) 0 in
    let m : n * 3 + 2 < length l = omega (arith, c.if-counts-n.false) in
    let r : get_or all (n * 3) 0 ≡ 0 =
    get_or-set_other two (n * 3 + 2) (n * 3) 0 0 (λ d. omega arith) ∙ get_or-set_other one (n * 3 + 1) (n * 3) 0 0 (λ d. omega arith)
    ∙ get_or-set_same l (n * 3) 0 0 (omega arith) in
    let k : get_or all (n * 3 + 1) 0 ≡ 0 =
    get_or-set_other two (n * 3 + 2) (n * 3 + 1) 0 0 (λ d. omega arith) ∙ get_or-set_same one (n * 3 + 1) 0 0 (omega (arith, length-set l (n * 3) 0)) in
    let t : get_or all (n * 3 + 2) 0 ≡ 0 = get_or-set_same two (n * 3 + 2) 0 0 (omega (arith, length-set one (n * 3 + 1) 0, length-set l (n * 3) 0)) in
    record {
      done = λ e places mail size P K. keeps_joined l places mail size n P K all (omega (arith, long))
          (λ j h. get_or-set_other two (n * 3 + 2) j 0 0 (λ d. omega arith) ∙ get_or-set_other one (n * 3 + 1) j 0 0 (λ d. omega arith)
          ∙ get_or-set_other l (n * 3) j 0 0 (λ d. omega arith)) r k t;
      full = λ e. absurd (false≢true (sym e));
    }
