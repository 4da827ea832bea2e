-- Bounds and keys with their order have the laws of upstream's keys.
-- Assumes nothing.
use mathlib.Core.Path.{◌≡◌, ap, ◌∙◌, sym, transport}
use mathlib.Core.Logic.{inl, inr}
use Prim.Native.Nat.{ℕ}
use Rattle.keys.specs.Bound.{order}
use Rattle.keys.specs.declared.Bound.{Bound}
use Rattle.keys.specs.declared.Bound.TheVariants.{Key, End}
use Rattle.std.specs.declared.cmp.Ordering.{Ordering}
use Rattle.std.specs.declared.cmp.Ordering.TheVariants.{Less, Equal, Greater}
use Rattle.keys.proofs.Laws.{order_less, end_above, order_refl, equal_order, order_sym, order_trans, order_flip, zero_less, order_connected, less_trans, less_le, le_less}
use Rattle.upstream.specs.Keys.{AtMost, KeyTrait}

-- ---- at most is not greater

abbrev Told : Ordering → Type 0
Told Less = Unit
Told Equal = Unit
Told Greater = ⊥

less_not_greater : Less ≡ Greater → ⊥
less_not_greater e = transport (ap Told e) tt

equal_not_greater : Equal ≡ Greater → ⊥
equal_not_greater e = transport (ap Told e) tt

most_not_greater : (o : Ordering) → AtMost o → o ≡ Greater → ⊥
most_not_greater o (inl e) g = less_not_greater (sym e ∙ g)
most_not_greater o (inr e) g = equal_not_greater (sym e ∙ g)

-- ---- the trait

bound_least : (k : Bound) → (k ≡ Key 0 → ⊥) → order (Key 0) k ≡ Less
bound_least (Key k) n = zero_less k (λ e. n (ap Key e))
bound_least End n = order_less (Key 0) End (end_above 0)

-- bounds, end among them
pub bound_trait : KeyTrait Bound order (Key 0)
bound_trait = record {
  least = bound_least;
  equal = λ a b. ((λ e. ap (order a) (sym e) ∙ order_refl a), equal_order a b);
  itself = order_refl;
  symmetric = λ a b. (order_sym a b, order_sym b a);
  equal_equal = order_trans;
  flips = order_flip;
  connected = order_connected;
  less_less = less_trans;
  less_most = λ a b c l m. less_le a b c l (most_not_greater (order b c) m);
  most_less = λ a b c m l. le_less a b c (most_not_greater (order a b) m) l;
}

abbrev number : Bound → ℕ
number (Key k) = k
number End = 0

-- keys
pub key_trait : KeyTrait ℕ (λ a b. order (Key a) (Key b)) 0
key_trait = record {
  least = zero_less;
  equal = λ a b. ((λ e. ap (λ (x : ℕ). order (Key a) (Key x)) (sym e) ∙ order_refl (Key a)), λ e. ap number (equal_order (Key a) (Key b) e));
  itself = λ a. order_refl (Key a);
  symmetric = λ a b. (order_sym (Key a) (Key b), order_sym (Key b) (Key a));
  equal_equal = λ a b c. order_trans (Key a) (Key b) (Key c);
  flips = λ a b. order_flip (Key a) (Key b);
  connected = λ a b. order_connected (Key a) (Key b);
  less_less = λ a b c. less_trans (Key a) (Key b) (Key c);
  less_most = λ a b c. bound_trait.less_most (Key a) (Key b) (Key c);
  most_less = λ a b c. bound_trait.most_less (Key a) (Key b) (Key c);
}
