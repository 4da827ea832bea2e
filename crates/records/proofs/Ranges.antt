-- The keys of a range stand from the first place that is not below lo up to the first that is not below hi.
-- Assumes nothing.
use mathlib.Core.Path.{◌≡◌, refl}
use mathlib.Core.Logic.{⊎_elim}
use mathlib.Core.Bool.{Bool, true, false}
use mathlib.Core.List.{List}
use Prim.Native.Nat.{ℕ, ◌+◌, ◌≤◌, ◌<◌}
use native.Mathlib.Omega.{arith}
use lib.ListN.{length, get_or}
use Rattle.keys.specs.declared.Bound.{Bound}
use Rattle.keys.specs.declared.Bound.TheVariants.{Key}
use Rattle.keys.specs.Bound.{below, holds}
use Rattle.columns.specs.Column.{Rising}
use Rattle.searches.specs.Search.{Before}
use Rattle.columns.proofs.Cases.{lt_or_ge}
use Rattle.records.specs.Table.{Value, Table, dropped, only, Listed}
use Rattle.records.specs.Memory.{value_at, Keeps}
use Rattle.records.proofs.Tables.{listed_cong, untouched_listed, window_listed}

module _ (keys : List ℕ) (n : ℕ) (l : n ≤ length keys) (R : Rising keys n) (lo hi : Bound) (i j : ℕ) (I : Before keys n lo i) (J : Before keys n hi j) where
  pub range_in : (x : ℕ) → i ≤ x → x < j → holds lo hi (get_or keys x 0) ≡ true
  range_in x a b = let xn : x < n = omega (arith, J.least) in simp (I.high l R x a xn, J.low l R x b)

  pub range_out : (x : ℕ) → x < n → (i ≤ x → x < j → ⊥) → holds lo hi (get_or keys x 0) ≡ false
  range_out x xn h = ⊎_elim (λ w. simp (I.low l R x w)) (λ w. past w (I.high l R x w xn) (J.high l R x (under w) xn)) (lt_or_ge x i)
    where
      under : i ≤ x → j ≤ x
      under w = ⊎_elim (λ a. absurd (h w a)) (λ a. a) (lt_or_ge x j)

      past : i ≤ x → below (Key (get_or keys x 0)) lo ≡ false → below (Key (get_or keys x 0)) hi ≡ false → holds lo hi (get_or keys x 0) ≡ false
      past w e f = simp (e, f)

-- no entry is one that the test holds of: taking those out changes nothing
pub keeps_untouched : (keys slots lens values : List ℕ) (n : ℕ) (T : Table) → Keeps keys slots lens values n T → (p : ℕ → Bool)
    → ((x : ℕ) → x < n → p (get_or keys x 0) ≡ false) → Keeps keys slots lens values n (dropped p T)
keeps_untouched keys slots lens values n T K p h = record {
  shape = K.shape;
  slotted = K.slotted;
  short = K.short;
  listed = untouched_listed n (λ i. get_or keys i 0) (value_at slots lens values) T K.listed p h;
}

-- .. and nothing but those is left of an empty window
pub window_none : (n : ℕ) (key : ℕ → ℕ) (val : ℕ → Value) (T : Table) → Listed n key val T → (p : ℕ → Bool) → ((x : ℕ) → x < n → p (key x) ≡ false)
    → (key' : ℕ → ℕ) (val' : ℕ → Value) → Listed 0 key' val' (only p T)
window_none n key val T L p h key' val' =
    listed_cong 0 (λ y. key (0 + y)) key' (λ y. val (0 + y)) val' (only p T) (only p T) (λ i q. absurd (omega arith)) (λ i q. absurd (omega arith)) (λ k. refl)
    (window_listed n key val T L 0 0 (omega arith) (omega arith) p (λ x a b. absurd (omega arith)) (λ x q g. h x q))
