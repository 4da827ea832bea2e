-- The map by peers' numbers and by addresses: an owner's place on the list of hosts is its number, and so after a range was given away; and a map
-- takes as many bounds by the one as by the other.
-- Assumes nothing.
use mathlib.Core.Path.{◌≡◌, refl, sym, ap, ◌∙◌, subst}
use mathlib.Core.Logic.{⊎_elim}
use mathlib.Core.Bool.{Bool, true, false, cond, ◌||◌, false≢true}
use mathlib.Core.List.{List, [], ◌∷◌, ◌++◌}
use Prim.Native.Nat.{ℕ, zero, suc, ◌≤◌, ◌<◌}
use native.Mathlib.Omega.{arith}
use lib.ListN.{length}
use lib.Dec.{ltb}
use borrow.Author.Tests.{lt-ltb, le-ltb}
use Rattle.columns.proofs.Cases.{lt_or_ge}
use Rattle.keys.specs.declared.Bound.{Bound}
use Rattle.keys.specs.Bound.{holds}
use Rattle.message.specs.Message.{Address}
use Rattle.decoding.specs.Decode.{same}
use Rattle.decoding.proofs.Decided.{same_refl}
use Rattle.std.specs.Prelude.{Err}
use Rattle.limits.specs.declared.NoRoom.{NoRoom}
use Rattle.delegation.specs.Map.{Takes, updated, room, AfterSet, Left}
use Rattle.delegation.proofs.Laws.{keeps_cong, takes_unique}
use Rattle.protocol.specs.Address.{among}
use Rattle.protocol.specs.Owners.{owner_of, giving}
use Rattle.protocol.specs.State.{Host}
use Rattle.hosts.specs.declared.State.{State}
use Rattle.hosts.specs.Memory.{Memory}
use Rattle.hosts.specs.Says.{firsts}
use Rattle.hosts.specs.Limits.{index_of, Bounded}
use Rattle.hosts.specs.Keeps.{Core}
use Rattle.hosts.proofs.Names.{length_firsts, among_firsts, strange_among}

-- ---- places on a list

-- an address behind one that is looked for changes nothing
index_before : (a b : Address) (l : List Address) → among a l ≡ true → index_of a (l ++ (b ∷ [])) ≡ index_of a l
index_before a b [] e = absurd (false≢true e)
index_before a b (c ∷ l) e = go (same a c) e (index_before a b l)
  where
    go : (t : Bool) → t || among a l ≡ true → (among a l ≡ true → index_of a (l ++ (b ∷ [])) ≡ index_of a l)
        → cond t 0 (suc (index_of a (l ++ (b ∷ [])))) ≡ cond t 0 (suc (index_of a l))
    go true q r = refl
    go false q r = ap suc (r q)

-- one that stands only at the end
index_last : (a : Address) (l : List Address) → among a l ≡ false → index_of a (l ++ (a ∷ [])) ≡ length l
index_last a [] e = rw (same_refl a) refl
index_last a (c ∷ l) e = go (same a c) e (index_last a l)
  where
    go : (t : Bool) → t || among a l ≡ false → (among a l ≡ false → index_of a (l ++ (a ∷ [])) ≡ length l)
        → cond t 0 (suc (index_of a (l ++ (a ∷ [])))) ≡ suc (length l)
    go true q r = absurd (false≢true (sym q))
    go false q r = ap suc (r q)

-- peers with distinct addresses stand on the list at their numbers
pub index_name : (N : ℕ → Address) (n : ℕ) → ((i j : ℕ) → i < n → j < n → N i ≡ N j → i ≡ j) → (i : ℕ) → i < n
    → index_of (N i) (firsts N n) ≡ i
index_name N zero d i h = absurd (omega arith)
index_name N (suc n) d i h =
    ⊎_elim
    (λ q.
    index_before (N i) (N n) (firsts N n) (among_firsts N n i q)
    ∙ index_name N n (λ x y p r e. d x y (omega arith) (omega arith) e) i q)
    (λ q.
    let e : i ≡ n = omega arith in
    let s : among (N n) (firsts N n) ≡ false =
    strange_among N n (N n) (λ j p w. absurd (omega (arith, d j n (omega arith) (omega arith) w))) in
    subst (λ (j : ℕ). index_of (N j) (firsts N (suc n)) ≡ j) (sym e) (index_last (N n) (firsts N n) s ∙ length_firsts N n))
    (lt_or_ge i n)

-- a map that agrees with another everywhere takes as many bounds
takes_cong : {f g : ℕ → ℕ} {m : ℕ} → ((x : ℕ) → g x ≡ f x) → Takes f m → Takes g m
takes_cong e t = (t.0, t.1, keeps_cong e t.2)

module _ (m : Memory) (k : State) (h : Host) (C : Core m k h) where
  -- a host's place on the list is its number
  pub index_host : (i : ℕ) → i < k.hosts → index_of (C.N i) h.hosts ≡ i
  index_host i p =
      subst (λ (l : List Address). index_of (C.N i) l ≡ i) C.says.hosts_are
      (index_name C.N k.hosts
      (λ x y q r e. C.names_kept.distinct x y (omega (arith, C.says.few)) (omega (arith, C.says.few)) e)
      i
      p)

  -- a peer is among the hosts exactly if its number is one of theirs
  pub among_hosts : (i : ℕ) → i < k.peers → among (C.N i) h.hosts ≡ ltb i k.hosts
  among_hosts i p =
      subst (λ (l : List Address). among (C.N i) l ≡ ltb i k.hosts) C.says.hosts_are
      (⊎_elim
      (λ q. among_firsts C.N k.hosts i q ∙ sym (lt-ltb i k.hosts q))
      (λ q.
      strange_among C.N k.hosts (C.N i)
      (λ j r e. absurd (omega (arith, C.names_kept.distinct j i (omega (arith, C.says.few)) p e)))
      ∙ sym (le-ltb i k.hosts q))
      (lt_or_ge i k.hosts))

  pub index_owner : (x : ℕ) → index_of (owner_of h.owners x) h.hosts ≡ C.f x
  index_owner x =
      subst (λ (a : Address). index_of a h.hosts ≡ C.f x) (C.says.owner_is x) (index_host (C.f x) (C.says.owner_in x))

  -- ---- the range [lo, hi) given to the host with the number i

  module _ (lo hi : Bound) (i : ℕ) (p : i < k.hosts) where
    pub giving_is : (x : ℕ) → C.N (updated lo hi i C.f x) ≡ owner_of (giving lo hi (C.N i) h.owners) x
    giving_is x = go (holds lo hi x)
      where
        go : (t : Bool) → C.N (cond t i (C.f x)) ≡ cond t (C.N i) (owner_of h.owners x)
        go true = refl
        go false = C.says.owner_is x

    pub giving_in : (x : ℕ) → updated lo hi i C.f x < k.hosts
    giving_in x = go (holds lo hi x)
      where
        go : (t : Bool) → cond t i (C.f x) < k.hosts
        go true = p
        go false = C.says.owner_in x

    pub index_giving : (x : ℕ) → index_of (owner_of (giving lo hi (C.N i) h.owners) x) h.hosts ≡ updated lo hi i C.f x
    index_giving x =
        subst (λ (a : Address). index_of a h.hosts ≡ updated lo hi i C.f x) (giving_is x)
        (index_host (updated lo hi i C.f x) (giving_in x))

    -- so many bounds are left, and that is within a bound exactly if the definition says so
    pub left_bounded : (r most : ℕ) → Left m.lows m.owners k.bounds lo hi i r → r ≤ most
        → Bounded most h (giving lo hi (C.N i) h.owners)
    left_bounded r most l q = (r, takes_cong index_giving (l.is C.f C.map_kept), q)

    pub bounded_left : (r most : ℕ) → Left m.lows m.owners k.bounds lo hi i r → Bounded most h (giving lo hi (C.N i) h.owners)
        → r ≤ most
    bounded_left r most l b =
        let t = takes_cong (λ x. sym (index_giving x)) b.1 in
        omega (arith, takes_unique (l.is C.f C.map_kept) t, b.2)

    -- what fits is not refused
    pub set_done : (lows owners : List ℕ) → Bounded (room m.lows m.owners) h (giving lo hi (C.N i) h.owners)
        → {e : NoRoom} → AfterSet m.lows m.owners k.bounds lo hi i (Err e) lows owners → ⊥
    set_done lows owners b s =
        let u = s.is.2 C.f C.map_kept in
        let t = takes_cong (λ x. sym (index_giving x)) b.1 in
        omega (arith, takes_unique u.1 t, b.2, u.2)
