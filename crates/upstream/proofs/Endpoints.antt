-- Peers' addresses with numbers, and what is kept under each number, are upstream's table from addresses.
-- Assumes nothing.
use mathlib.Core.Path.{◌≡◌, refl, sym, ap, ◌∙◌}
use mathlib.Core.Bool.{Bool, true, false, cond, false≢true}
use mathlib.Core.List.{List}
use mathlib.Core.Logic.{◌⊎◌, inl, inr, ⊎_elim, ◌↔◌}
use mathlib.Core.Option.{Option as Maybe, none, some, none-ne-some}
use Rattle.std.specs.Prelude.{Option, Some, None}
use Prim.Native.Nat.{ℕ, zero, suc, ◌+◌, ◌<◌}
use native.Mathlib.Omega.{arith}
use lib.Dec.{eqb}
use borrow.Author.Tests.{eqb-true, eqb-false, eq-eqb, ne_eqb}
use Rattle.message.specs.Message.{Address}
use Rattle.decoding.specs.Decode.{same}
use Rattle.decoding.proofs.Decided.{same_true, same_refl}
use Rattle.protocol.proofs.Addresses.{at_same, at_other}
use Rattle.peers.specs.Names.{Keeps, AfterFind, joined}
use Rattle.delivery.specs.Post.{at}
use Rattle.delivery.proofs.Laws.{at_same as number_same, at_other as number_other}
use Rattle.upstream.specs.Delivery.{insert}
use Rattle.upstream.specs.Endpoints.{Maps}

-- which of the first n has the address
numbered : (N : ℕ → Address) (a : Address) (n : ℕ) → ((i : ℕ) × (i < n) × (N i ≡ a)) ⊎ ((i : ℕ) → i < n → N i ≡ a → ⊥)
numbered N a zero = inr (λ i h e. omega (arith, h))
numbered N a (suc n) = ⊎_elim (λ r. let h = r.1 in inl (r.0, omega (arith, h), r.2)) (λ r. go (same (N n) a) refl r) (numbered N a n)
  where
    go : (t : Bool) → same (N n) a ≡ t → ((i : ℕ) → i < n → N i ≡ a → ⊥) → ((i : ℕ) × (i < suc n) × (N i ≡ a)) ⊎ ((i : ℕ) → i < suc n → N i ≡ a → ⊥)
    go true e f = inl (n, omega arith, same_true (N n) a e)
    go false e f = inr (λ i h q. last i h q (eqb i n) refl)
      where
        last : (i : ℕ) → i < suc n → N i ≡ a → (t : Bool) → eqb i n ≡ t → ⊥
        last i h q true w = absurd (false≢true (sym e ∙ ap (λ (x : Address). same x a) (ap N (sym (eqb-true i n w)) ∙ q) ∙ same_refl a))
        last i h q false w = let d = eqb-false i n w in f i (omega (arith, h, d)) q

module _ {A : Type 0} {n : ℕ} {N : ℕ → Address} {f : ℕ → A} {m : Address → Maybe A} (M : Maps n N f m) where
  -- there is no other such map
  pub endpoints_one : (m' : Address → Maybe A) → Maps n N f m' → (a : Address) → m a ≡ m' a
  endpoints_one m' M' a = ⊎_elim
      (λ r. ap m (sym r.2) ∙ M.known r.0 r.1 ∙ sym (M'.known r.0 r.1) ∙ ap m' r.2)
      (λ r. M.unknown a r ∙ sym (M'.unknown a r))
      (numbered N a n)

  -- get: what is kept under the number that is found, or nothing where none is
  abbrev pub Got : Option ℕ → Address → Type 0
  Got (Some i) a = m a ≡ some (f i)
  Got None a = m a ≡ none

  pub endpoints_get : (lens names : List ℕ) (width : ℕ) (a : Address) (r : Option ℕ) → AfterFind lens names width n a r → Keeps lens names width n N → Got r a
  endpoints_get lens names width a (Some i) A K = let w = A.is N K in ap m (sym w.1) ∙ M.known i w.0
  endpoints_get lens names width a None A K = M.unknown a (A.is N K)

  -- keys: an address is in the map exactly if it has a number
  pub endpoints_keys : (a : Address) → ((v : A) × (m a ≡ some v)) ↔ ((i : ℕ) × (i < n) × (N i ≡ a))
  endpoints_keys a = (there (numbered N a n), λ r. (f r.0, ap m (sym r.2) ∙ M.known r.0 r.1))
    where
      there : ((i : ℕ) × (i < n) × (N i ≡ a)) ⊎ ((i : ℕ) → i < n → N i ≡ a → ⊥) → (v : A) × (m a ≡ some v) → (i : ℕ) × (i < n) × (N i ≡ a)
      there (inl r) w = r
      there (inr r) w = absurd (none-ne-some w.0 (sym (M.unknown a r) ∙ w.1))

  -- put, and insert at an address that has a number: what is kept under it changes, and nothing else
  pub endpoints_put : ((i j : ℕ) → i < n → j < n → N i ≡ N j → i ≡ j) → (i : ℕ) → i < n → (v : A) → Maps n N (at i v f) (insert (N i) v m)
  endpoints_put distinct i h v = record {
    known = λ j k. known j k (eqb j i) refl;
    unknown = λ a s. at_other (N i) (some v) m a (λ e. s i h (sym e)) ∙ M.unknown a s;
  }
    where
      known : (j : ℕ) → j < n → (t : Bool) → eqb j i ≡ t → insert (N i) v m (N j) ≡ some (at i v f j)
      known j k true e =
          let q : j ≡ i = eqb-true j i e in
          ap (λ (x : ℕ). insert (N i) v m (N x)) q ∙ at_same (N i) (some v) m ∙ ap some (sym (number_same i v f) ∙ ap (at i v f) (sym q))
      known j k false e =
          let d : j ≡ i → ⊥ = eqb-false j i e in
          at_other (N i) (some v) m (N j) (λ q. d (distinct j i k h q)) ∙ M.known j k ∙ ap some (sym (number_other i v f j d))

  -- insert at a new address: it gets the next number
  pub endpoints_insert : (a : Address) → ((i : ℕ) → i < n → N i ≡ a → ⊥) → (v : A) → Maps (n + 1) (joined n a N) (at n v f) (insert a v m)
  endpoints_insert a new v = record {
    known = λ j k. known j k (eqb j n) refl;
    unknown = λ b s. at_other a (some v) m b (λ e. s n (omega arith) (ap (λ (t : Bool). cond t a (N n)) (eq-eqb n n refl) ∙ sym e))
        ∙ M.unknown b (λ i h e. s i (omega (arith, h)) (ap (λ (t : Bool). cond t a (N i)) (ne_eqb i n (λ q. omega (arith, h, q))) ∙ e));
  }
    where
      known : (j : ℕ) → j < n + 1 → (t : Bool) → eqb j n ≡ t → insert a v m (joined n a N j) ≡ some (at n v f j)
      known j k true e =
          ap (λ (t : Bool). insert a v m (cond t a (N j))) e ∙ at_same a (some v) m ∙ ap some (sym (ap (λ (t : Bool). cond t v (f j)) e))
      known j k false e =
          let d : j ≡ n → ⊥ = eqb-false j n e in
          let h : j < n = omega (arith, k, d) in
          ap (λ (t : Bool). insert a v m (cond t a (N j))) e
          ∙ at_other a (some v) m (N j) (λ q. new j h q) ∙ M.known j h ∙ ap some (sym (ap (λ (t : Bool). cond t v (f j)) e))

-- new: nobody has a number
pub endpoints_new : {A : Type 0} (N : ℕ → Address) (f : ℕ → A) → Maps 0 N f (λ a. none)
endpoints_new N f = record { known = λ i h. absurd (omega (arith, h)); unknown = λ a s. refl }
