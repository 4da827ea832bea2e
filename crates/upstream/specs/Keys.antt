-- Upstream's trait for keys, keys_t.KeyTrait, as its laws: over any type with a comparison. Its eq() is `Equal`, its lt() `Less`, its gt() `Greater`.
-- Assumes nothing.
use Rattle.std.specs.Prelude.{◌≡◌, ◌⊎◌, ◌↔◌}
use Rattle.std.specs.declared.cmp.Ordering.{Ordering}
use Rattle.std.specs.declared.cmp.Ordering.TheVariants.{Less, Equal, Greater}

-- le()
abbrev pub AtMost : Ordering → Type 0
AtMost o = (o ≡ Less) ⊎ (o ≡ Equal)

pub record KeyTrait (A : Type 0) (cmp : A → A → Ordering) (zero : A) : Type 0 where
  -- zero_properties
  pub least : (k : A) → (k ≡ zero → ⊥) → cmp zero k ≡ Less
  -- cmp_properties, clause by clause
  pub equal : (a b : A) → (a ≡ b) ↔ (cmp a b ≡ Equal)
  pub itself : (a : A) → cmp a a ≡ Equal
  pub symmetric : (a b : A) → (cmp a b ≡ Equal) ↔ (cmp b a ≡ Equal)
  pub equal_equal : (a b c : A) → cmp a b ≡ Equal → cmp b c ≡ Equal → cmp a c ≡ Equal
  pub flips : (a b : A) → (cmp a b ≡ Less) ↔ (cmp b a ≡ Greater)
  pub connected : (a b : A) → (cmp a b ≡ Equal → ⊥) → (cmp a b ≡ Less) ⊎ (cmp b a ≡ Less)
  pub less_less : (a b c : A) → cmp a b ≡ Less → cmp b c ≡ Less → cmp a c ≡ Less
  pub less_most : (a b c : A) → cmp a b ≡ Less → AtMost (cmp b c) → cmp a c ≡ Less
  pub most_less : (a b c : A) → AtMost (cmp a b) → cmp b c ≡ Less → cmp a c ≡ Less
