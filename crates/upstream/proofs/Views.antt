-- What a change of the host is in upstream's state.
-- Assumes nothing.
use mathlib.Core.Path.{◌≡◌, refl, sym, ap, ◌∙◌}
use mathlib.Core.Bool.{Bool, true, false, cond, not}
use mathlib.Core.List.{List, [], ◌∷◌, ◌++◌}
use mathlib.Core.Option.{none, some}
use Prim.Native.Nat.{ℕ, zero, suc, ◌+◌, ◌-◌, ◌<◌}
use native.Mathlib.Omega.{arith}
use lib.ListN.{length, drop}
use lib.Dec.{eqb, leb}
use borrow.Author.Tests.{eqb-true, ne_eqb, le-leb, lt-leb}
use Rattle.message.specs.Message.{Address, Body}
use Rattle.decoding.specs.Decode.{same}
use Rattle.decoding.proofs.Decided.{same_true}
use Rattle.protocol.specs.Address.{at}
use Rattle.protocol.specs.State.{Host}
use Rattle.protocol.specs.Delivery.{next, posted, confirmed}
use Rattle.upstream.specs.Messages.{SingleMessage, message}
use Rattle.upstream.specs.Delivery.{insert, last_of, AckState, ack_of, truncate, new_seqno}
use Rattle.upstream.specs.View.{view_body, last_seen, messages_from, heard_of, view_ack, view_delivery}

-- ---- numbers received

pub last_of_lem : (n : ℕ) → last_of (last_seen n) ≡ n
last_of_lem n = go (eqb n 0) refl
  where
    go : (t : Bool) → eqb n 0 ≡ t → last_of (cond t none (some n)) ≡ n
    go true e = sym (eqb-true n 0 e)
    go false e = refl

pub seen_took : (a : Address) (n : ℕ) (f : Address → ℕ) → 0 < n → (λ (x : Address). last_seen (at a n f x)) ≡ insert a n (λ x. last_seen (f x))
seen_took a n f p = λ i x. go x (same x a) i
  where
    go : (x : Address) (t : Bool) → last_seen (cond t n (f x)) ≡ cond t (some n) (last_seen (f x))
    go x true = let e : eqb n 0 ≡ false = ne_eqb n 0 (λ q. omega (arith, p, q)) in rw e refl
    go x false = refl

-- ---- messages that wait

pub length_messages : (n : ℕ) (a : Address) (l : List Body) → length (messages_from n a l) ≡ length l
length_messages n a [] = refl
length_messages n a (b ∷ l) = let r : length (messages_from (suc n) a l) ≡ length l = length_messages (suc n) a l in omega (arith, r)

messages_snoc : (n m : ℕ) (a : Address) (l : List Body) (b : Body) → m ≡ n + length l
    → messages_from n a (l ++ (b ∷ [])) ≡ messages_from n a l ++ (message m a (view_body b) ∷ [])
messages_snoc n m a [] b e = let u : n ≡ m = omega (arith, e) in ap (λ (k : ℕ). message k a (view_body b) ∷ []) u
messages_snoc n m a (c ∷ l) b e = ap (λ (z : List SingleMessage). message n a (view_body c) ∷ z) (messages_snoc (suc n) m a l b (omega (arith, e)))

messages_truncated : (i m n : ℕ) (a : Address) (l : List Body) → suc n ≡ m + i → truncate (messages_from m a l) n ≡ messages_from (suc n) a (drop i l)
messages_truncated zero m n a [] e = refl
messages_truncated (suc i) m n a [] e = refl
messages_truncated zero m n a (b ∷ l) e =
    let u : m ≡ suc n = omega (arith, e) in
    let f : leb m n ≡ false = lt-leb m n (omega (arith, e)) in
    rw f (ap (λ (k : ℕ). messages_from k a (b ∷ l)) u)
messages_truncated (suc i) m n a (b ∷ l) e =
    let f : leb m n ≡ true = le-leb m n (omega (arith, e)) in
    rw f (messages_truncated i (suc m) n a l (omega (arith, e)))

heard_snoc : (n : ℕ) (l : List Body) (b : Body) → heard_of n (l ++ (b ∷ [])) ≡ true
heard_snoc n [] b = refl
heard_snoc n (c ∷ l) b = refl

pub heard_any : (n : ℕ) (l : List Body) → 0 < n → heard_of n l ≡ true
heard_any n [] p = let e : eqb n 0 ≡ false = ne_eqb n 0 (λ q. omega (arith, p, q)) in rw e refl
heard_any n (b ∷ l) p = refl

-- what is known of a peer, whether it stands in the map or not
known_as : (n : ℕ) (a : Address) (l : List Body)
    → ack_of (cond (heard_of n l) (some (record { acked = n; unacked = messages_from (suc n) a l })) none) ≡ record { acked = n; unacked = messages_from (suc n) a l }
known_as n a [] = go (eqb n 0) refl
  where
    go : (t : Bool) → eqb n 0 ≡ t → ack_of (cond (not t) (some (record { acked = n; unacked = [] })) none) ≡ record { acked = n; unacked = [] }
    go true e = ap (λ (k : ℕ). record { acked = k; unacked = [] }) (sym (eqb-true n 0 e))
    go false e = refl
known_as n a (b ∷ l) = refl

pub ack_of_lem : (h : Host) (a : Address) → ack_of (view_ack h a) ≡ record { acked = h.acknowledged a; unacked = messages_from (suc (h.acknowledged a)) a (h.waiting a) }
ack_of_lem h a = known_as (h.acknowledged a) a (h.waiting a)

pub seqno_is : (h : Host) (a : Address) → new_seqno (view_delivery h) a ≡ next h a
seqno_is h a =
    ap (λ (s : AckState). s.acked + length s.unacked + 1) (ack_of_lem h a)
    ∙ ap (λ (n : ℕ). h.acknowledged a + n + 1) (length_messages (suc (h.acknowledged a)) a (h.waiting a))

-- one more message waits for c
pub acks_posted : (h : Host) (c : Address) (b : Body)
    → view_ack (posted c b h)
    ≡ insert c (record { acked = (ack_of (view_ack h c)).acked; unacked = (ack_of (view_ack h c)).unacked ++ (message (new_seqno (view_delivery h) c) c (view_body b) ∷ []) }) (view_ack h)
acks_posted h c b = λ i x. go x (same x c) refl i
  where
    there : ◌≡◌ {A = AckState} (record { acked = h.acknowledged c; unacked = messages_from (suc (h.acknowledged c)) c (h.waiting c ++ (b ∷ [])) })
        (record { acked = (ack_of (view_ack h c)).acked; unacked = (ack_of (view_ack h c)).unacked ++ (message (new_seqno (view_delivery h) c) c (view_body b) ∷ []) })
    there =
        ap (λ (l : List SingleMessage). record { acked = h.acknowledged c; unacked = l })
        (messages_snoc (suc (h.acknowledged c)) (new_seqno (view_delivery h) c) c (h.waiting c) b (let u = seqno_is h c in omega (arith, u)))
        ∙ ap (λ (s : AckState). record { acked = s.acked; unacked = s.unacked ++ (message (new_seqno (view_delivery h) c) c (view_body b) ∷ []) }) (sym (ack_of_lem h c))

    go : (x : Address) (t : Bool) → same x c ≡ t
        → cond (heard_of (h.acknowledged x) (cond t (h.waiting c ++ (b ∷ [])) (h.waiting x)))
        (some (record { acked = h.acknowledged x; unacked = messages_from (suc (h.acknowledged x)) x (cond t (h.waiting c ++ (b ∷ [])) (h.waiting x)) })) none
        ≡ cond t
        (some (record { acked = (ack_of (view_ack h c)).acked; unacked = (ack_of (view_ack h c)).unacked ++ (message (new_seqno (view_delivery h) c) c (view_body b) ∷ []) }))
        (view_ack h x)
    go x true e =
        rw (heard_snoc (h.acknowledged x) (h.waiting c) b)
        (ap (λ (z : Address). some (record { acked = h.acknowledged z; unacked = messages_from (suc (h.acknowledged z)) z (h.waiting c ++ (b ∷ [])) })) (same_true x c e)
        ∙ ap (λ (s : AckState). some s) there)
    go x false e = refl

-- messages up to n have arrived at c
pub acks_confirmed : (h : Host) (c : Address) (n : ℕ) → h.acknowledged c < n
    → view_ack (confirmed c n h) ≡ insert c (record { acked = n; unacked = truncate (ack_of (view_ack h c)).unacked n }) (view_ack h)
acks_confirmed h c n more = λ i x. go x (same x c) refl i
  where
    there : messages_from (suc n) c (drop (n - h.acknowledged c) (h.waiting c)) ≡ truncate (ack_of (view_ack h c)).unacked n
    there =
        sym (messages_truncated (n - h.acknowledged c) (suc (h.acknowledged c)) n c (h.waiting c) (omega (arith, more)))
        ∙ ap (λ (s : AckState). truncate s.unacked n) (sym (ack_of_lem h c))

    go : (x : Address) (t : Bool) → same x c ≡ t
        → cond (heard_of (cond t n (h.acknowledged x)) (cond t (drop (n - h.acknowledged c) (h.waiting c)) (h.waiting x)))
        (some (record { acked = cond t n (h.acknowledged x); unacked = messages_from (suc (cond t n (h.acknowledged x))) x (cond t (drop (n - h.acknowledged c) (h.waiting c)) (h.waiting x)) })) none
        ≡ cond t (some (record { acked = n; unacked = truncate (ack_of (view_ack h c)).unacked n })) (view_ack h x)
    go x true e =
        rw (heard_any n (drop (n - h.acknowledged c) (h.waiting c)) (omega (arith, more)))
        (ap (λ (z : Address). some (record { acked = n; unacked = messages_from (suc n) z (drop (n - h.acknowledged c) (h.waiting c)) })) (same_true x c e)
        ∙ ap (λ (l : List SingleMessage). some (record { acked = n; unacked = l })) there)
    go x false e = refl
