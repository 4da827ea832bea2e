-- Laws of addresses: tests on them, functions changed at one of them, and lists.
-- Assumes nothing.
use mathlib.Core.Path.{◌≡◌, refl, sym, ap}
use mathlib.Core.Logic.{◌⊎◌, inl, inr, ⊎_elim}
use mathlib.Core.Bool.{Bool, true, false, ◌||◌, and-eq-true_iff, false≢true}
use mathlib.Core.List.{List, [], ◌∷◌, ◌++◌}
use Prim.Native.Nat.{◌<◌}
use native.Mathlib.Omega.{arith}
use lib.ListN.{length}
use lib.Dec.{ltb}
use borrow.Author.Tests.{ltb-true}
use Rattle.limits.specs.Limits.{bytes_max}
use Rattle.message.specs.Message.{Address}
use Rattle.decoding.specs.Decode.{same}
use Rattle.decoding.proofs.Decided.{same_true, same_refl}
use Rattle.protocol.specs.Address.{among, at}
use Rattle.protocol.specs.State.{short}

-- one of two tests passes, if either does
pub either : (s t : Bool) → s || t ≡ true → (s ≡ true) ⊎ (t ≡ true)
either true t e = inl refl
either false t e = inr e

pub or_right : (s t : Bool) → t ≡ true → s || t ≡ true
or_right true t e = refl
or_right false t e = e

-- neither does, if one of the two does not
pub neither : (s t : Bool) → s || t ≡ false → (s ≡ false) × (t ≡ false)
neither true t e = absurd (false≢true (sym e))
neither false t e = (refl, e)

pub same_false : (a b : Address) → (a ≡ b → ⊥) → same a b ≡ false
same_false a b h = go (same a b) refl
  where
    go : (t : Bool) → same a b ≡ t → same a b ≡ false
    go true e = absurd (h (same_true a b e))
    go false e = e

-- ---- a function changed at one address

pub at_same : {A : Type 0} (a : Address) (v : A) (f : Address → A) → at a v f a ≡ v
at_same a v f = rw (same_refl a) refl

pub at_other : {A : Type 0} (a : Address) (v : A) (f : Address → A) (x : Address) → (x ≡ a → ⊥) → at a v f x ≡ f x
at_other a v f x h = rw (same_false x a h) refl

-- ---- lists of addresses

pub among_snoc : (a b : Address) (l : List Address) → among a (l ++ (b ∷ [])) ≡ among a l || same a b
among_snoc a b [] = go (same a b)
  where
    go : (t : Bool) → t || false ≡ t
    go true = refl
    go false = refl
among_snoc a b (c ∷ l) = go (same a c) (among_snoc a b l)
  where
    go : (t : Bool) → among a (l ++ (b ∷ [])) ≡ among a l || same a b → t || among a (l ++ (b ∷ [])) ≡ (t || among a l) || same a b
    go true e = refl
    go false e = e

-- an address of a list of short ones is short
pub short_among : (l : List Address) → short l ≡ true → (a : Address) → among a l ≡ true → length a < bytes_max
short_among [] s a e = absurd (false≢true e)
short_among (b ∷ l) s a e =
    let u = (and-eq-true_iff (ltb (length b) bytes_max) (short l)).0 s in
    ⊎_elim
    (λ q. let v : length a ≡ length b = ap length (same_true a b q) in omega (arith, v, ltb-true (length b) bytes_max u.0))
    (λ q. short_among l u.1 a q) (either (same a b) (among a l) e)
