-- The laws of what is known of peers, and of the memory that keeps it.
-- Assumes nothing.
use mathlib.Core.Path.{◌≡◌, refl, sym, ap, ◌∙◌, subst}
use mathlib.Core.Logic.{⊎_elim}
use mathlib.Core.List.{List, []}
use Prim.Native.Nat.{ℕ, suc, ◌+◌, ◌*◌, ◌≤◌, ◌<◌}
use native.Mathlib.Omega.{arith}
use lib.ListN.{length, get_or, set, length-set}
use lib.Seq.{get_or-set_same, get_or-set_other}
use borrow.Author.Tests.{ne_eqb, eq-eqb}
use Rattle.columns.proofs.Cases.{eq_or_ne}
use Rattle.delivery.specs.Post.{Post, at, nothing, last, took, joined}
use Rattle.delivery.specs.Memory.{received_of, acknowledged_of, last_of, capacity, mark_at, number_at, datagram_at, Keeps}

-- ---- a function changed for one peer

pub at_same : {A : Type 0} (i : ℕ) (v : A) (f : ℕ → A) → at i v f i ≡ v
at_same i v f = rw (eq-eqb i i refl) refl

pub at_other : {A : Type 0} (i : ℕ) (v : A) (f : ℕ → A) (j : ℕ) → (j ≡ i → ⊥) → at i v f j ≡ f j
at_other i v f j h = rw (ne_eqb j i h) refl

-- what holds of the peer with its new value, and of every other with its old, holds of all
pub at_all : {A : Type 0} (Q : ℕ → A → Type 0) (i : ℕ) (v : A) (f : ℕ → A) → Q i v → ((j : ℕ) → (j ≡ i → ⊥) → Q j (f j)) → (j : ℕ) → Q j (at i v f j)
at_all Q i v f new old j =
    ⊎_elim
    (λ (e : j ≡ i). subst (λ (x : ℕ). Q x (at i v f x)) (sym e) (subst (Q i) (sym (at_same i v f)) new))
    (λ h. subst (Q j) (sym (at_other i v f j h)) (old j h))
    (eq_or_ne j i)

-- ---- a message was taken

module _ (counts places mail : List ℕ) (size n : ℕ) (P : Post) (K : Keeps counts places mail size n P) where
  pub keeps_took : (i x : ℕ) → i < n → Keeps (set counts (i * 3) x) places mail size n (took i x P)
  keeps_took i x h = record {
    wide = K.wide;
    fits_counts = omega (arith, K.fits_counts, length-set counts (i * 3) x);
    fits_mail = K.fits_mail;
    received = λ j q. at_all (λ j v. j < n → received_of (set counts (i * 3) x) j ≡ v) i x P.received
        (λ q. get_or-set_same counts (i * 3) x 0 (omega (arith, K.fits_counts)))
        (λ j e q. get_or-set_other counts (i * 3) (j * 3) x 0 (λ d. e (omega arith)) ∙ K.received j q)
        j
        q;
    acknowledged = λ j q. get_or-set_other counts (i * 3) (j * 3 + 1) x 0 (λ d. omega arith) ∙ K.acknowledged j q;
    sent = λ j q. get_or-set_other counts (i * 3) (j * 3 + 2) x 0 (λ d. omega arith) ∙ K.sent j q;
    short = K.short;
    holding = record { here = K.holding.here; only = K.holding.only; apart = K.holding.apart };
  }

  -- ---- a new peer

  joined_here : (i j : ℕ) → i < n + 1 → j < length ((joined n P).waiting i)
      → (p : ℕ) × (p < capacity places) × (mark_at places p ≡ suc i) × (number_at places p ≡ suc ((joined n P).acknowledged i + j))
      × (datagram_at places mail size p ≡ get_or ((joined n P).waiting i) j [])
  joined_here i j h q =
      ⊎_elim
      (λ (e : i ≡ n).
      let w : (joined n P).waiting i ≡ [] = ap (joined n P).waiting e ∙ at_same n [] P.waiting in
      absurd (omega (arith, ap length w)))
      (λ e.
      let w : (joined n P).waiting i ≡ P.waiting i = at_other n [] P.waiting i e in
      let a : (joined n P).acknowledged i ≡ P.acknowledged i = at_other n 0 P.acknowledged i e in
      let r = K.holding.here i j (omega arith) (omega (arith, ap length w)) in
      rw (w, a) r)
      (eq_or_ne i n)

  joined_only : (p i : ℕ) → p < capacity places → mark_at places p ≡ suc i
      → (i < n + 1) × ((joined n P).acknowledged i < number_at places p) × (number_at places p ≤ last (joined n P) i)
  joined_only p i h m =
      let o = K.holding.only p i h m in
      let ne : i ≡ n → ⊥ = λ e. omega (arith, o.0) in
      let w : (joined n P).waiting i ≡ P.waiting i = at_other n [] P.waiting i ne in
      let a : (joined n P).acknowledged i ≡ P.acknowledged i = at_other n 0 P.acknowledged i ne in
      (omega (arith, o.0), omega (arith, a, o.1), omega (arith, a, ap length w, o.2))

  pub keeps_joined : (counts' : List ℕ) → (n + 1) * 3 ≤ length counts' → ((k : ℕ) → k < n * 3 → get_or counts' k 0 ≡ get_or counts k 0)
      → received_of counts' n ≡ 0 → acknowledged_of counts' n ≡ 0 → last_of counts' n ≡ 0
      → Keeps counts' places mail size (n + 1) (joined n P)
  keeps_joined counts' f old r a l = record {
    wide = K.wide;
    fits_counts = f;
    fits_mail = K.fits_mail;
    received = at_all (λ j v. j < n + 1 → received_of counts' j ≡ v) n 0 P.received
        (λ q. r)
        (λ j e q. old (j * 3) (omega arith) ∙ K.received j (omega arith));
    acknowledged = at_all (λ j v. j < n + 1 → acknowledged_of counts' j ≡ v) n 0 P.acknowledged
        (λ q. a)
        (λ j e q. old (j * 3 + 1) (omega arith) ∙ K.acknowledged j (omega arith));
    sent = λ j q.
        ⊎_elim
        (λ (e : j ≡ n).
        let w = ap length (ap (joined n P).waiting e ∙ at_same n [] P.waiting) in
        let b = ap (joined n P).acknowledged e ∙ at_same n 0 P.acknowledged in
        ap (last_of counts') e ∙ omega (arith, l, w, b))
        (λ e.
        let w = ap length (at_other n [] P.waiting j e) in
        let b = at_other n 0 P.acknowledged j e in
        omega (arith, old (j * 3 + 2) (omega arith), K.sent j (omega arith), w, b))
        (eq_or_ne j n);
    short = K.short;
    holding = record { here = joined_here; only = joined_only; apart = K.holding.apart };
  }

-- ---- nothing yet

pub keeps_nothing : (counts places mail : List ℕ) (size n : ℕ) → 0 < size → n * 3 ≤ length counts → capacity places * size ≤ length mail
    → ((k : ℕ) → get_or counts k 0 ≡ 0) → ((k : ℕ) → get_or places k 0 ≡ 0) → Keeps counts places mail size n nothing
keeps_nothing counts places mail size n w f m zc zp = record {
  wide = w;
  fits_counts = f;
  fits_mail = m;
  received = λ i h. zc (i * 3);
  acknowledged = λ i h. zc (i * 3 + 1);
  sent = λ i h. zc (i * 3 + 2);
  short = λ p h q. absurd (omega (arith, zp (p * 3)));
  holding = record {
    here = λ i j h q. absurd (omega arith);
    only = λ p i h q. absurd (omega (arith, zp (p * 3)));
    apart = λ p q h k z. absurd (omega (arith, zp (p * 3)));
  };
}
