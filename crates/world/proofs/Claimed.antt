-- The claims to a key are as many as were counted; the one that there is has the key, and whoever has the key is that one.
-- Assumes nothing.
use mathlib.Core.Path.{◌≡◌, refl, sym, ap, ap₂, ◌∙◌, subst}
use mathlib.Core.Bool.{Bool, true, false, cond, false≢true}
use mathlib.Core.List.{List, [], ◌∷◌}
use mathlib.Core.Logic.{inl, inr, ⊎_elim}
use mathlib.Core.Option.{some, some-injective, none-ne-some}
use Prim.Native.Nat.{ℕ, zero, suc, ◌+◌}
use native.Mathlib.Omega.{arith}
use lib.ListN.{length, length-append}
use Rattle.message.specs.Message.{Address, Body}
use Rattle.decoding.specs.Decode.{same}
use Rattle.decoding.proofs.Decided.{same_true, same_refl}
use Rattle.protocol.specs.Address.{among}
use Rattle.protocol.specs.Owners.{owner_of}
use Rattle.world.specs.World.{World}
use Rattle.world.specs.Events.{nth}
use Rattle.world.specs.Claims.{mine, on_the_way, moves, Claim, host, transfer, host_claims, way_claims, claims_from, transfer_claims, claims}
use Rattle.world.specs.Single.{Among}
use Rattle.world.specs.Theorem.{IsHost, Has, OneOwner}
use Rattle.world.proofs.Lists.{among_left, among_right, among_either}
use Rattle.world.proofs.Sums.{sum, first_or, later}
use Rattle.world.proofs.Invariant.{bit, own, moving, ways, total}

-- ---- lists

one_or_none : (t : Bool) (c : Claim) → length (cond t (c ∷ []) []) ≡ bit t
one_or_none true c = refl
one_or_none false c = refl

module _ {A : Type 0} where
  -- a list of one
  only : (l : List A) → length l ≡ 1 → (x : A) × Among x l × ((y : A) → Among y l → y ≡ x)
  only [] e = absurd (omega (arith, e))
  only (x ∷ []) e = (x, inl refl, λ y a. ⊎_elim (λ p. p) (λ p. absurd p) a)
  only (x ∷ y ∷ l) e = absurd (omega (arith, e))

-- a claim that is made if a test passes
among_if : (t : Bool) (c : Claim) → t ≡ true → Among c (cond t (c ∷ []) [])
among_if true c e = inl refl
among_if false c e = absurd (false≢true e)

if_among : (t : Bool) (c d : Claim) → Among d (cond t (c ∷ []) []) → (t ≡ true) × (d ≡ c)
if_among true c d (inl e) = (refl, e)
if_among true c d (inr a) = absurd a
if_among false c d a = absurd a

-- ---- counted

module _ (W : World) (k : ℕ) where
  count_hosts : (l : List Address) → length (host_claims W k l) ≡ sum (own W.state k) l
  count_hosts [] = refl
  count_hosts (x ∷ l) =
      length-append (cond (mine (W.state x) x k) (host x ∷ []) []) (host_claims W k l) ∙ ap₂ ◌+◌ (one_or_none (mine (W.state x) x k) (host x)) (count_hosts l)

  count_way : (a b : Address) (i : ℕ) (l : List Body) → length (way_claims a b k i l) ≡ moving l k
  count_way a b i [] = refl
  count_way a b i (m ∷ l) =
      length-append (cond (moves m k) (transfer a b i ∷ []) []) (way_claims a b k (suc i) l)
      ∙ ap₂ ◌+◌ (one_or_none (moves m k) (transfer a b i)) (count_way a b (suc i) l)

  count_from : (a : Address) (l : List Address) → length (claims_from W k a l) ≡ sum (ways W.state k a) l
  count_from a [] = refl
  count_from a (b ∷ l) =
      length-append (way_claims a b k 0 (on_the_way W a b)) (claims_from W k a l) ∙ ap₂ ◌+◌ (count_way a b 0 (on_the_way W a b)) (count_from a l)

  count_transfers : (l : List Address) → length (transfer_claims W k l) ≡ sum (λ a. sum (ways W.state k a) W.hosts) l
  count_transfers [] = refl
  count_transfers (a ∷ l) =
      length-append (claims_from W k a W.hosts) (transfer_claims W k l) ∙ ap₂ ◌+◌ (count_from a W.hosts) (count_transfers l)

  pub count_claims : length (claims W k) ≡ total W.hosts W.state k
  count_claims =
      length-append (host_claims W k W.hosts) (transfer_claims W k W.hosts) ∙ ap₂ ◌+◌ (count_hosts W.hosts) (count_transfers W.hosts)

  -- ---- whoever has the key is among them

  host_claims_lem : (x : Address) (l : List Address) → among x l ≡ true → mine (W.state x) x k ≡ true → Among (host x) (host_claims W k l)
  host_claims_lem x [] e m = absurd (false≢true e)
  host_claims_lem x (y ∷ l) e m =
      first_or x y l e (Among (host x) (host_claims W k (y ∷ l)))
      (λ q.
      among_left (host x) (cond (mine (W.state y) y k) (host y ∷ []) []) (host_claims W k l)
      (subst (λ (z : Address). Among (host x) (cond (mine (W.state z) z k) (host z ∷ []) [])) q (among_if (mine (W.state x) x k) (host x) m)))
      (λ q. among_right (host x) (cond (mine (W.state y) y k) (host y ∷ []) []) (host_claims W k l) (host_claims_lem x l q m))

  way_claims_lem : (a b : Address) (i j : ℕ) (l : List Body) (m : Body) → nth j l ≡ some m → moves m k ≡ true → (n : ℕ) → n ≡ i + j
      → Among (transfer a b n) (way_claims a b k i l)
  way_claims_lem a b i j [] m e t n q = absurd (none-ne-some m e)
  way_claims_lem a b i zero (c ∷ l) m e t n q =
      let u : i ≡ n = omega (arith, q) in
      among_left (transfer a b n) (cond (moves c k) (transfer a b i ∷ []) []) (way_claims a b k (suc i) l)
      (subst (λ (z : ℕ). Among (transfer a b z) (cond (moves c k) (transfer a b i ∷ []) [])) u
      (among_if (moves c k) (transfer a b i) (ap (λ (z : Body). moves z k) (some-injective c m e) ∙ t)))
  way_claims_lem a b i (suc j) (c ∷ l) m e t n q =
      among_right (transfer a b n) (cond (moves c k) (transfer a b i ∷ []) []) (way_claims a b k (suc i) l)
      (way_claims_lem a b (suc i) j l m e t n (omega (arith, q)))

  from_claims : (a b : Address) (n : ℕ) → Among (transfer a b n) (way_claims a b k 0 (on_the_way W a b)) → (l : List Address) → among b l ≡ true
      → Among (transfer a b n) (claims_from W k a l)
  from_claims a b n c [] e = absurd (false≢true e)
  from_claims a b n c (y ∷ l) e =
      first_or b y l e (Among (transfer a b n) (claims_from W k a (y ∷ l)))
      (λ q.
      among_left (transfer a b n) (way_claims a y k 0 (on_the_way W a y)) (claims_from W k a l)
      (subst (λ (z : Address). Among (transfer a b n) (way_claims a z k 0 (on_the_way W a z))) q c))
      (λ q. among_right (transfer a b n) (way_claims a y k 0 (on_the_way W a y)) (claims_from W k a l) (from_claims a b n c l q))

  transfer_claims_lem : (a b : Address) (n : ℕ) → Among (transfer a b n) (claims_from W k a W.hosts) → (l : List Address) → among a l ≡ true
      → Among (transfer a b n) (transfer_claims W k l)
  transfer_claims_lem a b n c [] e = absurd (false≢true e)
  transfer_claims_lem a b n c (y ∷ l) e =
      first_or a y l e (Among (transfer a b n) (transfer_claims W k (y ∷ l)))
      (λ q.
      among_left (transfer a b n) (claims_from W k y W.hosts) (transfer_claims W k l)
      (subst (λ (z : Address). Among (transfer a b n) (claims_from W k z W.hosts)) q c))
      (λ q. among_right (transfer a b n) (claims_from W k y W.hosts) (transfer_claims W k l) (transfer_claims_lem a b n c l q))

  has_among : (c : Claim) → Has W k c → Among c (claims W k)
  has_among (host x) h =
      among_left (host x) (host_claims W k W.hosts) (transfer_claims W k W.hosts)
      (host_claims_lem x W.hosts h.0 (ap (λ (z : Address). same z x) h.1 ∙ same_refl x))
  has_among (transfer a b i) h =
      among_right (transfer a b i) (host_claims W k W.hosts) (transfer_claims W k W.hosts)
      (transfer_claims_lem a b i
      (from_claims a b i (way_claims_lem a b 0 i (on_the_way W a b) h.2.0 h.2.1 h.2.2 i (omega arith)) W.hosts h.1) W.hosts h.0)

  -- ---- and what is among them has the key

  hosts_have : (c : Claim) (l : List Address) → ((y : Address) → among y l ≡ true → IsHost W y) → Among c (host_claims W k l) → Has W k c
  hosts_have c [] f a = absurd a
  hosts_have c (x ∷ l) f a =
      ⊎_elim
      (λ p.
      let u = if_among (mine (W.state x) x k) (host x) c p in
      subst (λ (z : Claim). Has W k z) (sym u.1) (f x (rw (same_refl x) refl), same_true (owner_of (W.state x).owners k) x u.0))
      (λ p. hosts_have c l (λ y e. f y (later y x l e)) p)
      (among_either c (cond (mine (W.state x) x k) (host x ∷ []) []) (host_claims W k l) a)

  -- the transfer at place j of what is left of the list, which began i places before
  ways_have : (c : Claim) (a b : Address) (i : ℕ) (l : List Body) → Among c (way_claims a b k i l)
      → (j : ℕ) × (m : Body) × (c ≡ transfer a b (i + j)) × (nth j l ≡ some m) × (moves m k ≡ true)
  ways_have c a b i [] p = absurd p
  ways_have c a b i (m ∷ l) p =
      ⊎_elim
      (λ q.
      let u = if_among (moves m k) (transfer a b i) c q in
      let e : i ≡ i + 0 = omega arith in
      (0, m, u.1 ∙ ap (transfer a b) e, refl, u.0))
      (λ q.
      let r = ways_have c a b (suc i) l q in
      let e : suc i + r.0 ≡ i + suc r.0 = omega arith in
      (suc r.0, r.1, r.2 ∙ ap (transfer a b) e, r.3, r.4))
      (among_either c (cond (moves m k) (transfer a b i ∷ []) []) (way_claims a b k (suc i) l) p)

  from_have : (c : Claim) (a : Address) → IsHost W a → (l : List Address) → ((y : Address) → among y l ≡ true → IsHost W y) → Among c (claims_from W k a l)
      → Has W k c
  from_have c a h [] f p = absurd p
  from_have c a h (b ∷ l) f p =
      ⊎_elim
      (λ q.
      let r = ways_have c a b 0 (on_the_way W a b) q in
      let e : 0 + r.0 ≡ r.0 = omega arith in
      subst (λ (z : Claim). Has W k z) (sym (r.2 ∙ ap (transfer a b) e)) (h, f b (rw (same_refl b) refl), (r.1, r.3, r.4)))
      (λ q. from_have c a h l (λ y e. f y (later y b l e)) q)
      (among_either c (way_claims a b k 0 (on_the_way W a b)) (claims_from W k a l) p)

  transfers_have : (c : Claim) (l : List Address) → ((y : Address) → among y l ≡ true → IsHost W y) → Among c (transfer_claims W k l) → Has W k c
  transfers_have c [] f p = absurd p
  transfers_have c (a ∷ l) f p =
      ⊎_elim
      (λ q. from_have c a (f a (rw (same_refl a) refl)) W.hosts (λ y e. e) q)
      (λ q. transfers_have c l (λ y e. f y (later y a l e)) q)
      (among_either c (claims_from W k a W.hosts) (transfer_claims W k l) p)

  among_has : (c : Claim) → Among c (claims W k) → Has W k c
  among_has c a =
      ⊎_elim (λ p. hosts_have c W.hosts (λ y e. e) p) (λ p. transfers_have c W.hosts (λ y e. e) p)
      (among_either c (host_claims W k W.hosts) (transfer_claims W k W.hosts) a)

  pub one_owner : length (claims W k) ≡ 1 → OneOwner W k
  one_owner e = let o = only (claims W k) e in (o.0, among_has o.0 o.1, λ c h. o.2 c (has_among c h))
