-- The list of the first so many peers' addresses.
-- Assumes nothing.
use mathlib.Core.Path.{◌≡◌, refl, sym, ◌∙◌, subst}
use mathlib.Core.Logic.{⊎_elim}
use mathlib.Core.Bool.{Bool, true, false, false≢true}
use mathlib.Core.List.{[], ◌∷◌}
use Prim.Native.Nat.{ℕ, zero, suc, ◌<◌}
use native.Mathlib.Omega.{arith}
use lib.ListN.{length, length-append}
use Rattle.columns.proofs.Cases.{lt_or_ge}
use Rattle.message.specs.Message.{Address}
use Rattle.decoding.specs.Decode.{same}
use Rattle.decoding.proofs.Decided.{same_true, same_refl}
use Rattle.protocol.specs.Address.{among}
use Rattle.protocol.proofs.Addresses.{either, or_right, among_snoc}
use Rattle.hosts.specs.Says.{firsts, Strange}

pub length_firsts : (N : ℕ → Address) (n : ℕ) → length (firsts N n) ≡ n
length_firsts N zero = refl
length_firsts N (suc n) = omega (arith, length-append (firsts N n) (N n ∷ []), length_firsts N n)

-- an address is on the list exactly if a peer has it
pub among_firsts : (N : ℕ → Address) (n i : ℕ) → i < n → among (N i) (firsts N n) ≡ true
among_firsts N zero i h = absurd (omega arith)
among_firsts N (suc n) i h =
    among_snoc (N i) (N n) (firsts N n)
    ∙ ⊎_elim
    (λ q. rw (among_firsts N n i q) refl)
    (λ q.
    let e : i ≡ n = omega arith in
    or_right (among (N i) (firsts N n)) (same (N i) (N n)) (subst (λ (j : ℕ). same (N i) (N j) ≡ true) e (same_refl (N i))))
    (lt_or_ge i n)

pub firsts_among : (N : ℕ → Address) (n : ℕ) (a : Address) → among a (firsts N n) ≡ true → (i : ℕ) × (i < n) × (N i ≡ a)
firsts_among N zero a e = absurd (false≢true e)
firsts_among N (suc n) a e =
    ⊎_elim
    (λ q. let r = firsts_among N n a q in (r.0, omega (arith, r.1), r.2))
    (λ q. (n, omega arith, sym (same_true a (N n) q)))
    (either (among a (firsts N n)) (same a (N n)) (sym (among_snoc a (N n) (firsts N n)) ∙ e))

pub among_strange : (N : ℕ → Address) (n : ℕ) (a : Address) → among a (firsts N n) ≡ false → Strange N n a
among_strange N n a e i h q = false≢true (sym e ∙ subst (λ (x : Address). among x (firsts N n) ≡ true) q (among_firsts N n i h))

pub strange_among : (N : ℕ → Address) (n : ℕ) (a : Address) → Strange N n a → among a (firsts N n) ≡ false
strange_among N n a s = go (among a (firsts N n)) refl
  where
    go : (t : Bool) → among a (firsts N n) ≡ t → among a (firsts N n) ≡ false
    go true e = let r = firsts_among N n a e in absurd (s r.0 r.1 r.2)
    go false e = e
