-- Places in use are as many as messages that wait: so all that waits fits the places, with one left over if a place is free, and with none
-- left over if none is.
-- Assumes nothing.
use mathlib.Core.Path.{◌≡◌, refl, sym, ap, ◌∙◌, subst}
use mathlib.Core.Logic.{⊎_elim}
use mathlib.Core.List.{List}
use Prim.Native.Nat.{ℕ, zero, suc, ◌+◌, ◌-◌, ◌≤◌, ◌<◌}
use native.Mathlib.Omega.{arith}
use lib.ListN.{length}
use Rattle.columns.proofs.Cases.{lt_or_ge, eq_or_ne}
use Rattle.delivery.specs.Post.{Post, at, total}
use Rattle.delivery.specs.Memory.{capacity, mark_at, number_at, Holding, Keeps}
use Rattle.delivery.proofs.Laws.{at_same, at_other}

-- ---- m things in c places

-- each has a place, no two share one, and a place that none has is left over
fewer : (m c : ℕ) (R : ℕ → ℕ → Type 0) → ((k : ℕ) → k < m → (p : ℕ) × (p < c) × R k p)
    → ((k l p : ℕ) → R k p → R l p → k ≡ l) → (p : ℕ) → p < c → ((k : ℕ) → k < m → R k p → ⊥) → m < c
fewer zero c R f apart p h free = omega arith
fewer (suc m) zero R f apart p h free = absurd (omega arith)
fewer (suc m) (suc c) R f apart p h free =
    let low : m < suc m = omega arith in
    let own = moved m low in
    let less : m < c =
    fewer m c (λ k q. R k (at p c (λ x. x) q)) (λ k b. moved k (omega arith))
    (λ k l q. apart k l (at p c (λ x. x) q)) own.0 own.1
    (λ k b r. let e : k ≡ m = apart k m (at p c (λ x. x) own.0) r own.2 in omega arith) in
    omega arith
  where
    -- without place p there is one place less: what was in the last is in p now
    moved : (k : ℕ) → k < suc m → (q : ℕ) × (q < c) × R k (at p c (λ x. x) q)
    moved k b =
        let o = f k b in
        let other : o.0 ≡ p → ⊥ = λ e. free k b (subst (R k) e o.2) in
        ⊎_elim
        (λ (e : o.0 ≡ c). (p, omega arith, subst (R k) (e ∙ sym (at_same p c (λ x. x))) o.2))
        (λ d. (o.0, omega (arith, o.1), subst (R k) (sym (at_other p c (λ x. x) o.0 other)) o.2))
        (eq_or_ne o.0 c)

-- without a place left over
as_few : (m c : ℕ) (R : ℕ → ℕ → Type 0) → ((k : ℕ) → k < m → (p : ℕ) × (p < c) × R k p)
    → ((k l p : ℕ) → R k p → R l p → k ≡ l) → m ≤ c
as_few zero c R f apart = omega arith
as_few (suc m) c R f apart =
    let low : m < suc m = omega arith in
    let own = f m low in
    fewer m c R (λ k b. f k (omega arith)) apart own.0 own.1 (λ k b r. let e = apart k m own.0 r own.2 in omega arith)

-- ---- the messages in a row, one peer's after the other's

-- those of a peer end before those of the next begin
pub total_before : (P : Post) (i n : ℕ) → i < n → length (P.waiting i) + total i P ≤ total n P
total_before P i zero h = absurd (omega arith)
total_before P i (suc n) h =
    ⊎_elim
    (λ q. omega (arith, total_before P i n q))
    (λ q. let e : i ≡ n = omega arith in subst (λ x. length (P.waiting x) + total x P ≤ total (suc n) P) (sym e) (omega arith))
    (lt_or_ge i n)

-- the k-th message is in place p
record Filed (mark number : ℕ → ℕ) (P : Post) (k p : ℕ) : Type 0 where
  peer : ℕ
  index : ℕ
  short : index < length (P.waiting peer)
  rank : k ≡ index + total peer P
  mark_is : mark p ≡ suc peer
  number_is : number p ≡ suc (P.acknowledged peer + index)

-- there is a k-th
spread : (n k : ℕ) (P : Post) → k < total n P → (i : ℕ) × (j : ℕ) × (i < n) × (j < length (P.waiting i)) × (k ≡ j + total i P)
spread zero k P h = absurd (omega arith)
spread (suc n) k P h =
    ⊎_elim
    (λ q. let r = spread n k P q in (r.0, r.1, omega (arith, r.2), r.3, r.4))
    (λ q. (n, k - total n P, omega arith, omega arith, omega arith))
    (lt_or_ge k (total n P))

module _ {c : ℕ} {mark number : ℕ → ℕ} {datagram : ℕ → List ℕ} {n : ℕ} {P : Post} (H : Holding c mark number datagram n P) where
  -- it is in a place
  filed : (k : ℕ) → k < total n P → (p : ℕ) × (p < c) × Filed mark number P k p
  filed k h =
      let r = spread n k P h in
      let s = H.here r.0 r.1 r.2 r.3 in
      (s.0, s.1, record { peer = r.0; index = r.1; short = r.3; rank = r.4; mark_is = s.2; number_is = s.3 })

  -- a place in use has one of them
  used : (p : ℕ) → p < c → 0 < mark p → (k : ℕ) × (k < total n P) × Filed mark number P k p
  used p h u =
      let i : ℕ = mark p - 1 in
      let m : mark p ≡ suc i = omega arith in
      let o = H.only p i h m in
      let j : ℕ = number p - suc (P.acknowledged i) in
      let short : j < length (P.waiting i) = omega (arith, o.1, o.2) in
      (j + total i P, omega (arith, total_before P i n o.0), record { peer = i; index = j; short = short; rank = refl; mark_is = m; number_is = omega (arith, o.1) })

-- a place has one only
same_rank : {mark number : ℕ → ℕ} {P : Post} {k l p : ℕ} → Filed mark number P k p → Filed mark number P l p → k ≡ l
same_rank {P = P} a b =
    let e : a.peer ≡ b.peer = omega (arith, a.mark_is, b.mark_is) in
    omega (arith, a.rank, b.rank, a.number_is, b.number_is, ap P.acknowledged e, ap (λ (x : ℕ). total x P) e)

-- the k-th is in one place only
same_place : {c : ℕ} {mark number : ℕ → ℕ} {datagram : ℕ → List ℕ} {n : ℕ} {P : Post} → Holding c mark number datagram n P → {k p q : ℕ} → p < c → q < c
    → Filed mark number P k p → Filed mark number P k q → p ≡ q
same_place {P = P} H hp hq a b =
    H.apart _ _ hp hq (omega (arith, a.mark_is)) (a.mark_is ∙ ap suc e ∙ sym b.mark_is)
    (omega (arith, a.number_is, b.number_is, ap P.acknowledged e, ap (λ (x : ℕ). total x P) e, a.rank, b.rank))
  where
    e : a.peer ≡ b.peer
    e = ⊎_elim
        (λ h. absurd (omega (arith, total_before P a.peer b.peer h, a.rank, b.rank, a.short)))
        (λ h. ⊎_elim
        (λ g. absurd (omega (arith, total_before P b.peer a.peer g, a.rank, b.rank, b.short)))
        (λ g. omega arith)
        (lt_or_ge b.peer a.peer))
        (lt_or_ge a.peer b.peer)

-- ---- what is kept

module _ {counts places mail : List ℕ} {size n : ℕ} {P : Post} (K : Keeps counts places mail size n P) where
  -- all that waits fits
  pub keeps_fits : total n P ≤ capacity places
  keeps_fits =
      as_few (total n P) (capacity places) (Filed (mark_at places) (number_at places) P) (filed K.holding) (λ k l p. same_rank)

  -- .. with a place left over if one is free
  pub keeps_one_free : (p : ℕ) → p < capacity places → mark_at places p ≡ 0 → total n P < capacity places
  keeps_one_free p h z =
      fewer (total n P) (capacity places) (Filed (mark_at places) (number_at places) P) (filed K.holding) (λ k l q. same_rank) p h
      (λ k b r. omega (arith, r.mark_is))

  -- .. and no place is left over if none is free
  pub keeps_all_taken : ((p : ℕ) → p < capacity places → 0 < mark_at places p) → capacity places ≤ total n P
  keeps_all_taken u =
      as_few (capacity places) (total n P) (λ p k. (p < capacity places) × Filed (mark_at places) (number_at places) P k p)
      (λ p h. let r = used K.holding p h (u p h) in (r.0, r.1, (h, r.2)))
      (λ p q k x y. same_place K.holding x.0 y.0 x.1 y.1)
