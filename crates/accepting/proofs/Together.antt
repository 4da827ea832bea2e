-- The answers of the parts together: the Delegate is dropped or taken as the definition's row says.
-- Assumes nothing.
use mathlib.Core.Path.{◌≡◌, refl, sym, ap, ◌∙◌, subst}
use mathlib.Core.Bool.{Bool, true, false, ◌&&◌, ◌||◌, not, and-eq-true_iff}
use mathlib.Core.List.{List}
use Prim.Native.Nat.{ℕ, ◌-◌, ◌<◌}
use native.Mathlib.Omega.{arith}
use lib.ListN.{length}
use lib.Dec.{ltb}
use borrow.Author.Tests.{ltb-true}
use Rattle.limits.specs.Limits.{entries_limit, transfers_limit}
use Rattle.keys.specs.declared.Bound.{Bound}
use Rattle.keys.specs.Bound.{below}
use Rattle.format.specs.Format.{Entry}
use Rattle.format.specs.Place.{listed}
use Rattle.message.specs.declared.ListView.{ListView}
use Rattle.message.specs.declared.BodyView.TheVariants.{Delegate}
use Rattle.message.specs.View.{BodyIn}
use Rattle.protocol.specs.State.{Host, Letter}
use Rattle.protocol.specs.Process.{any_long, unfit, on_delegate}
use Rattle.hosts.specs.declared.State.{State}
use Rattle.hosts.specs.declared.Done.{Done}
use Rattle.hosts.specs.declared.Processed.TheVariants.{Dropped}
use Rattle.hosts.specs.Memory.{Memory, memory}
use Rattle.hosts.specs.Keeps.{Core}
use Rattle.hosts.specs.Answers.{dropped_of, Does, Heard}
use Rattle.hosts.proofs.Core.{does_dropped}
use Rattle.delegates.specs.Answers.{Fine, AfterColumns}
use Rattle.accepting.specs.Answers.{AfterDelegate}
use Rattle.accepting.specs.Inner.{AfterTake}
use Rattle.accepting.proofs.Laws.{unfit_is}

-- a Delegate that passes the first test has few entries
pub few_entries : {k : State} {lo hi : Bound} {n : ℕ} {t : Bool} → Fine k lo hi n t → t ≡ true → n < entries_limit
few_entries {k} {lo} {hi} {n} F f =
    ltb-true n entries_limit
    ((and-eq-true_iff (ltb n entries_limit) (ltb k.from k.hosts)).0
    ((and-eq-true_iff (below lo hi) (ltb n entries_limit && ltb k.from k.hosts)).0 (sym F.is ∙ f)).1
    ).0

-- the list's entries
abbrev pub es : List ℕ → ListView → List Entry
es s list = listed s list.at list.count

-- whether it is unfit, by the two tests
module _ {k : State} {s : List ℕ} {lo hi : Bound} {list : ListView} {t : Bool} (F : Fine k lo hi list.count t) (m : Memory) (h : Host) (C : Core m k h)
    (l : Letter) (H : Heard m k l) (B : BodyIn s (Delegate lo hi list)) where
  unfit_by : unfit h l lo hi (es s list) ≡ not t || any_long (es s list)
  unfit_by =
      unfit_is m k h C l H lo hi (es s list)
      ∙ ap (λ (n : ℕ). not (below lo hi && (ltb n entries_limit && ltb k.from k.hosts)) || any_long (es s list)) B.1.count
      ∙ ap (λ (b : Bool). not b || any_long (es s list)) (sym F.is)

  pub unfit_as : (b : Bool) → t ≡ b → unfit h l lo hi (es s list) ≡ not b || any_long (es s list)
  unfit_as b e = unfit_by ∙ ap (λ (x : Bool). not x || any_long (es s list)) e

module _ {lows owners keys slots lens values : List ℕ} {k : State} {s : List ℕ} {lo hi : Bound} {list : ListView} where
  dropped : {r : Done} → r ≡ dropped_of k
      → ((m : Memory) (h : Host) (C : Core m k h) (l : Letter) → Heard m k l → BodyIn s (Delegate lo hi list) → unfit h l lo hi (es s list) ≡ true)
      → AfterDelegate lows owners keys slots lens values k s lo hi list r lows owners keys slots lens values
  dropped {r} e u = record {
    is = λ name_lens names counts places mail. record {
      freed = ap (λ (x : Done). x.state.len) e;
      is = λ h l C H N.
          let m = memory lows owners keys slots lens values name_lens names counts places mail in
          subst (λ (x : Done). Does m x.state x.outcome (on_delegate (unfit h l lo hi (es s list)) h l lo hi (es s list))) (sym e)
          (subst (λ (t : Bool). Does m (dropped_of k).state Dropped (on_delegate t h l lo hi (es s list))) (sym (u m h C l H N.inside))
          (does_dropped m k h C Dropped refl));
    };
  }

  pub not_fine : {t : Bool} {r : Done} → Fine k lo hi list.count t → t ≡ false → r ≡ dropped_of k
      → AfterDelegate lows owners keys slots lens values k s lo hi list r lows owners keys slots lens values
  not_fine F f e = dropped e (λ m h C l H B. unfit_as F m h C l H B false f)

  module _ {t u : Bool} {ks ats ls : List ℕ} (F : Fine k lo hi list.count t) (f : t ≡ true)
      (A : AfterColumns s list.at list.count u ks ats ls) where
    pub too_long : {r : Done} → length ks ≡ entries_limit → length ats ≡ entries_limit → length ls ≡ entries_limit → u ≡ false → r ≡ dropped_of k
        → AfterDelegate lows owners keys slots lens values k s lo hi list r lows owners keys slots lens values
    too_long ek ea el v e =
        let n = few_entries F f in
        dropped e
        (λ m h C l H B.
        unfit_as F m h C l H B true f
        ∙ A.no v (omega (arith, n, ek)) (omega (arith, n, ea)) (omega (arith, n, el)) B.0 B.1)

    pub accepted : {r : Done} {lows' owners' keys' slots' lens' values' : List ℕ} → u ≡ true
        → AfterTake lows owners keys slots lens values k s lo hi ks ats ls list.count r lows' owners' keys' slots' lens' values'
        → AfterDelegate lows owners keys slots lens values k s lo hi list r lows' owners' keys' slots' lens' values'
    accepted {r} {lows'} {owners'} {keys'} {slots'} {lens'} {values'} v T = record {
      is = λ name_lens names counts places mail. record {
        freed = T.freed;
        is = λ h l C H N.
            let m = memory lows owners keys slots lens values name_lens names counts places mail in
            let m' = memory lows' owners' keys' slots' lens' values' name_lens names counts places mail in
            let w = A.yes v N.inside.0 N.inside.1 in
            let fit : unfit h l lo hi (es s list) ≡ false = unfit_as F m h C l H N.inside true f ∙ w.0 in
            subst (λ (b : Bool). Does m' r.state r.outcome (on_delegate b h l lo hi (es s list))) (sym fit)
            (T.is name_lens names counts places mail h l (es s list) C
            (record {
              few = ltb-true h.transfers (transfers_limit - 2) N.few;
              count = N.inside.1.count;
              above = N.inside.1.above;
              filled = w.1;
              bounds = N.bounds fit;
              entries = N.entries fit;
            }));
      };
    }
