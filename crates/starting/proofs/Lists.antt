-- With which lists a host starts: the definition's tests, against the addresses by their places.
-- Assumes nothing.
use mathlib.Core.Path.{◌≡◌, refl, sym, ap, ap₂, ◌∙◌, subst}
use mathlib.Core.Bool.{Bool, true, false, cond, ◌&&◌, not, and-false, and-eq-true_iff}
use mathlib.Core.List.{List, [], ◌∷◌, ◌++◌}
use mathlib.Core.Option.{none, some}
use Prim.Native.Nat.{ℕ, zero, suc, ◌<◌}
use native.Mathlib.Omega.{arith}
use lib.ListN.{length}
use lib.Dec.{ltb}
use borrow.Author.Tests.{ltb-true, lt-ltb}
use Rattle.limits.specs.Limits.{bytes_max}
use Rattle.message.specs.Message.{Address}
use Rattle.protocol.specs.Address.{among}
use Rattle.protocol.specs.State.{different, short, fresh, start}
use Rattle.hosts.specs.Says.{firsts, Strange}
use Rattle.hosts.proofs.Names.{among_firsts, strange_among}

-- the list from its front
firsts_cons : (N : ℕ → Address) (n : ℕ) → firsts N (suc n) ≡ N 0 ∷ firsts (λ i. N (suc i)) n
firsts_cons N zero = refl
firsts_cons N (suc n) = ap (λ (l : List Address). l ++ (N (suc n) ∷ [])) (firsts_cons N n)

-- ---- no two equal

differ : (N : ℕ → Address) (n : ℕ) → ((i j : ℕ) → i < n → j < n → N i ≡ N j → i ≡ j) → different (firsts N n) ≡ true
differ N zero d = refl
differ N (suc n) d =
    let M : ℕ → Address = λ i. N (suc i) in
    let s : among (N 0) (firsts M n) ≡ false =
    strange_among M n (N 0) (λ i p e. let z : suc i ≡ 0 = d (suc i) 0 (omega arith) (omega arith) e in omega (arith, z)) in
    let t : different (firsts M n) ≡ true =
    differ M n (λ i j p q e. let z : suc i ≡ suc j = d (suc i) (suc j) (omega arith) (omega arith) e in omega (arith, z)) in
    ap different (firsts_cons N n) ∙ ap₂ (λ (u v : Bool). not u && v) s t

alike : (N : ℕ → Address) (n i j : ℕ) → i < j → j < n → N i ≡ N j → different (firsts N n) ≡ false
alike N zero i j p q e = absurd (omega arith)
alike N (suc n) i zero p q e = absurd (omega arith)
alike N (suc n) zero (suc j) p q e =
    let M : ℕ → Address = λ k. N (suc k) in
    let s : among (N 0) (firsts M n) ≡ true =
    subst (λ (a : Address). among a (firsts M n) ≡ true) (sym e) (among_firsts M n j (omega arith)) in
    ap different (firsts_cons N n) ∙ ap (λ (u : Bool). not u && different (firsts M n)) s
alike N (suc n) (suc i) (suc j) p q e =
    let M : ℕ → Address = λ k. N (suc k) in
    ap different (firsts_cons N n)
    ∙ ap (λ (u : Bool). not (among (N 0) (firsts M n)) && u) (alike M n i j (omega arith) (omega arith) e)
    ∙ and-false (not (among (N 0) (firsts M n)))

-- ---- each short enough

brief : (N : ℕ → Address) (n : ℕ) → ((i : ℕ) → i < n → length (N i) < bytes_max) → short (firsts N n) ≡ true
brief N zero h = refl
brief N (suc n) h =
    ap short (firsts_cons N n)
    ∙ ap₂ (λ (u v : Bool). u && v) (lt-ltb (length (N 0)) bytes_max (h 0 (omega arith))) (brief (λ i. N (suc i)) n (λ i p. h (suc i) (omega arith)))

all_brief : (N : ℕ → Address) (n : ℕ) → short (firsts N n) ≡ true → (i : ℕ) → i < n → length (N i) < bytes_max
all_brief N zero e i p = absurd (omega arith)
all_brief N (suc n) e zero p =
    ltb-true (length (N 0)) bytes_max ((and-eq-true_iff (ltb (length (N 0)) bytes_max) (short (firsts (λ k. N (suc k)) n))).0 (sym (ap short (firsts_cons N n)) ∙ e)).0
all_brief N (suc n) e (suc i) p =
    all_brief (λ k. N (suc k)) n ((and-eq-true_iff (ltb (length (N 0)) bytes_max) (short (firsts (λ k. N (suc k)) n))).0 (sym (ap short (firsts_cons N n)) ∙ e)).1 i (omega arith)

-- ---- starting

-- does a host start?
abbrev starts : List Address → Address → Bool
starts l me = different l && (short l && among me l)

none_if : (l : List Address) (me : Address) → starts l me ≡ false → start l me ≡ none
none_if [] me e = refl
none_if (a ∷ l) me e = ap (λ (t : Bool). cond t (some (fresh a (a ∷ l) me)) none) e

some_if : (l : List Address) (me a : Address) (r : List Address) → l ≡ a ∷ r → starts l me ≡ true → start l me ≡ some (fresh a l me)
some_if l me a r e =
    subst (λ (x : List Address). starts x me ≡ true → start x me ≡ some (fresh a x me)) (sym e)
    (λ t. ap (λ (u : Bool). cond u (some (fresh a (a ∷ r) me)) none) t)

module _ (N : ℕ → Address) (n : ℕ) (me : Address) where
  -- two addresses are equal
  pub none_alike : (i j : ℕ) → i < j → j < n → N i ≡ N j → start (firsts N n) me ≡ none
  none_alike i j p q e =
      none_if (firsts N n) me (ap (λ (t : Bool). t && (short (firsts N n) && among me (firsts N n))) (alike N n i j p q e))

  -- one is too long
  pub none_long : (((i : ℕ) → i < n → length (N i) < bytes_max) → ⊥) → start (firsts N n) me ≡ none
  none_long f = go (short (firsts N n)) refl
    where
      go : (t : Bool) → short (firsts N n) ≡ t → start (firsts N n) me ≡ none
      go true e = absurd (f (all_brief N n e))
      go false e =
          none_if (firsts N n) me
          (ap (λ (t : Bool). different (firsts N n) && (t && among me (firsts N n))) e ∙ and-false (different (firsts N n)))

  -- the own one is not among them
  pub none_own : Strange N n me → start (firsts N n) me ≡ none
  none_own s =
      none_if (firsts N n) me
      (ap (λ (t : Bool). different (firsts N n) && (short (firsts N n) && t)) (strange_among N n me s)
      ∙ ap (λ (t : Bool). different (firsts N n) && t) (and-false (short (firsts N n)))
      ∙ and-false (different (firsts N n)))

  -- all is well
  pub one_starts : ((i j : ℕ) → i < n → j < n → N i ≡ N j → i ≡ j) → ((i : ℕ) → i < n → length (N i) < bytes_max) → (i : ℕ) → i < n → N i ≡ me
      → start (firsts N n) me ≡ some (fresh (N 0) (firsts N n) me)
  one_starts d b i p e =
      let t : starts (firsts N n) me ≡ true =
      ap₂ (λ (u v : Bool). u && v) (differ N n d)
      (ap₂ (λ (u v : Bool). u && v) (brief N n b) (subst (λ (a : Address). among a (firsts N n) ≡ true) e (among_firsts N n i p))) in
      let m : firsts N n ≡ N 0 ∷ firsts (λ k. N (suc k)) (pred n) = front n p in
      some_if (firsts N n) me (N 0) (firsts (λ k. N (suc k)) (pred n)) m t
    where
      pred : ℕ → ℕ
      pred zero = zero
      pred (suc k) = k

      front : (k : ℕ) → i < k → firsts N k ≡ N 0 ∷ firsts (λ j. N (suc j)) (pred k)
      front zero q = absurd (omega arith)
      front (suc k) q = firsts_cons N k
