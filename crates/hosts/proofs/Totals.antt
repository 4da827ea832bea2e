-- How many messages wait: by peers' numbers and by addresses alike; so a free place is there exactly if the definition's count says so.
-- Assumes nothing.
use mathlib.Core.Path.{◌≡◌, refl, ap, ◌∙◌, subst}
use mathlib.Core.List.{List, [], ◌∷◌, ◌++◌}
use Prim.Native.Nat.{ℕ, zero, suc, ◌+◌, ◌<◌}
use native.Mathlib.Omega.{arith}
use lib.ListN.{length}
use Rattle.message.specs.Message.{Address}
use Rattle.delivery.specs.Post.{Post, total}
use Rattle.delivery.specs.Memory.{capacity, mark_at}
use Rattle.delivery.proofs.Counting.{keeps_one_free, keeps_all_taken}
use Rattle.protocol.specs.State.{Host}
use Rattle.hosts.specs.declared.State.{State}
use Rattle.hosts.specs.Memory.{Memory}
use Rattle.hosts.specs.Says.{firsts}
use Rattle.hosts.specs.Limits.{waiting_for}
use Rattle.hosts.specs.Keeps.{Core}
use Rattle.hosts.proofs.Says.{length_datagrams}

waiting_snoc : (h : Host) (l : List Address) (a : Address) → waiting_for h (l ++ (a ∷ [])) ≡ length (h.waiting a) + waiting_for h l
waiting_snoc h [] a = refl
waiting_snoc h (b ∷ l) a = omega (arith, waiting_snoc h l a)

-- the sum, if each peer has as many
waiting_firsts : (h : Host) (N : ℕ → Address) (P : Post) (n : ℕ) → ((i : ℕ) → i < n → length (P.waiting i) ≡ length (h.waiting (N i)))
    → waiting_for h (firsts N n) ≡ total n P
waiting_firsts h N P zero e = refl
waiting_firsts h N P (suc n) e =
    omega (arith, waiting_snoc h (firsts N n) (N n), waiting_firsts h N P n (λ i q. e i (omega arith)), e n (omega arith))

module _ (m : Memory) (k : State) (h : Host) (C : Core m k h) where
  pub waiting_total : waiting_for h h.peers ≡ total k.peers C.P
  waiting_total =
      subst (λ (l : List Address). waiting_for h l ≡ total k.peers C.P) C.says.peers_are
      (waiting_firsts h C.N C.P k.peers
      (λ i p. ap length (C.says.waiting_is i p) ∙ length_datagrams (suc (h.acknowledged (C.N i))) (C.N i) (h.waiting (C.N i))))

  -- there is room for one more message exactly if a place is free
  pub free_place : (p : ℕ) → p < capacity m.places → mark_at m.places p ≡ 0 → waiting_for h h.peers < capacity m.places
  free_place p q e = omega (arith, waiting_total, keeps_one_free C.post_kept p q e)

  pub all_taken : ((p : ℕ) → p < capacity m.places → 0 < mark_at m.places p) → waiting_for h h.peers < capacity m.places → ⊥
  all_taken t q = omega (arith, waiting_total, keeps_all_taken C.post_kept t)
