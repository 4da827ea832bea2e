-- How many entries there are when one more of a list is stored: one more if its key is new, else as many.
-- Assumes nothing.
use mathlib.Core.Path.{◌≡◌, sym, ap, ◌∙◌}
use mathlib.Core.Logic.{⊎_elim}
use mathlib.Core.Bool.{Bool, true, false}
use mathlib.Core.List.{List}
use Prim.Native.Nat.{ℕ, suc, ◌<◌}
use lib.ListN.{get_or}
use Rattle.keys.specs.declared.Bound.{Bound}
use Rattle.keys.specs.Bound.{holds}
use Rattle.columns.specs.Column.{Rising}
use Rattle.records.specs.Table.{Value, Table, removed, storing, Size}
use Rattle.records.specs.Memory.{Keeps}
use Rattle.counts.specs.Inner.{IsNew}
use Rattle.records.proofs.Tables.{size_new, size_old, dropped_true, dropped_false, dropped_none}
use Rattle.records.proofs.Stores.{storing_next}
use Rattle.records.proofs.Slotted.{in_keys}

module _ (keys slots lens values : List ℕ) (n : ℕ) (T : Table) (K : Keeps keys slots lens values n T) (lo hi : Bound) (ks : List ℕ) (m : ℕ)
    (R : Rising ks m) (val : ℕ → Value) (t : ℕ) (tm : t < m) (r : Bool) (N : IsNew keys n lo hi (get_or ks t 0) r)
  where
    S : Table
    S = storing t (λ i. get_or ks i 0) val (removed lo hi T)

    as_before : S (get_or ks t 0) ≡ removed lo hi T (get_or ks t 0)
    unfolding S
    as_before = storing_next t (λ i. get_or ks i 0) val (removed lo hi T) (λ i q. R i t q tm)

    pub count_new : (s : ℕ) → r ≡ true → Size (storing t (λ i. get_or ks i 0) val (removed lo hi T)) s
        → Size (storing (suc t) (λ i. get_or ks i 0) val (removed lo hi T)) (suc s)
    unfolding S
    count_new s e a =
        size_new s S (get_or ks t 0) (val t) a
        (as_before
        ∙ ⊎_elim
        (λ w. dropped_true (holds lo hi) T (get_or ks t 0) w)
        (λ w. dropped_none (holds lo hi) T (get_or ks t 0) (K.listed.none_else (get_or ks t 0) w))
        (N.yes e (in_keys keys slots lens values n T K) K.listed.rising))

    pub count_old : (s : ℕ) → r ≡ false → Size (storing t (λ i. get_or ks i 0) val (removed lo hi T)) s
        → Size (storing (suc t) (λ i. get_or ks i 0) val (removed lo hi T)) s
    unfolding S
    count_old s e a =
        let w = N.no e (in_keys keys slots lens values n T K) K.listed.rising in
        size_old s S (get_or ks t 0) (val t) _ a
        (as_before ∙ dropped_false (holds lo hi) T (get_or ks t 0) w.0 ∙ ap T (sym w.1.2) ∙ K.listed.has w.1.0 w.1.1)
