-- How each change of the abstract host is said by peers' numbers: a message posted, an Ack, a message taken, a new peer, a map and a table changed.
-- Assumes nothing.
use mathlib.Core.Path.{◌≡◌, refl, sym, ap, ap₂, ◌∙◌, subst}
use mathlib.Core.Logic.{⊎_elim}
use mathlib.Core.List.{List, [], ◌∷◌, ◌++◌}
use Prim.Native.Nat.{ℕ, suc, ◌+◌, ◌<◌}
use native.Mathlib.Omega.{arith}
use lib.ListN.{length}
use Rattle.columns.proofs.Cases.{eq_or_ne}
use Rattle.format.specs.Format.{Entry, Above}
use Rattle.message.specs.Message.{Address, Body, message}
use Rattle.message.specs.Table.{written}
use Rattle.records.specs.Table.{Table}
use Rattle.delivery.specs.Post.{Post, posted, last}
use Rattle.delivery.proofs.Laws.{at_same as peer-same, at_other as peer-other}
use Rattle.protocol.specs.Records.{look}
use Rattle.protocol.specs.Owners.{Owners, owner_of}
use Rattle.protocol.specs.State.{Host, done}
use Rattle.protocol.specs.Delivery.{posted as sent, next}
use Rattle.hosts.specs.Says.{datagrams, Says}
use Rattle.protocol.proofs.Addresses.{at_same, at_other}

-- ---- datagrams

pub length_datagrams : (x : ℕ) (a : Address) (l : List Body) → length (datagrams x a l) ≡ length l
length_datagrams x a [] = refl
length_datagrams x a (b ∷ l) = ap suc (length_datagrams (suc x) a l)

pub datagrams_snoc : (x : ℕ) (a : Address) (l : List Body) (b : Body)
    → datagrams x a (l ++ (b ∷ [])) ≡ datagrams x a l ++ (written (message (x + length l) a b) ∷ [])
datagrams_snoc x a [] b = let e : x + 0 ≡ x = omega arith in rw e refl
datagrams_snoc x a (c ∷ l) b =
    let e : suc x + length l ≡ x + suc (length l) = omega arith in
    ap (λ (t : List (List ℕ)). written (message x a c) ∷ t)
    (datagrams_snoc (suc x) a l b ∙ ap (λ (n : ℕ). datagrams (suc x) a l ++ (written (message n a b) ∷ [])) e)

module _ (N : ℕ → Address) (n hosts me : ℕ) (f : ℕ → ℕ) (T : Table) (P : Post) (h : Host) (S : Says N n hosts me f T P h) where
  -- the host's count is that of its peer
  pub last_is : (i : ℕ) → i < n → suc (last P i) ≡ next h (N i)
  last_is i p =
      let a = S.acknowledged_is i p in
      let w : length (P.waiting i) ≡ length (h.waiting (N i)) =
      ap length (S.waiting_is i p) ∙ length_datagrams (suc (h.acknowledged (N i))) (N i) (h.waiting (N i)) in
      omega (arith, a, w)

  -- ---- the map, the table and the count changed, and the room free

  pub says_done : (f' : ℕ → ℕ) (T' : Table) (o : Owners) (l : List Entry) (t : ℕ) → ((k : ℕ) → f' k < hosts) → ((k : ℕ) → N (f' k) ≡ owner_of o k)
      → ((k : ℕ) → T' k ≡ look k l) → Above 0 l → Says N n hosts me f' T' P (done o l t h)
  says_done f' T' o l t p q r s = record {
    few = S.few;
    own = S.own;
    me_is = S.me_is;
    hosts_are = S.hosts_are;
    peers_are = S.peers_are;
    owner_in = p;
    owner_is = q;
    record_is = r;
    sorted = s;
    received_is = S.received_is;
    acknowledged_is = S.acknowledged_is;
    waiting_is = S.waiting_is;
    strange_received = S.strange_received;
    strange_acknowledged = S.strange_acknowledged;
    strange_waiting = S.strange_waiting;
  }

  module _ (distinct : (i j : ℕ) → i < n → j < n → N i ≡ N j → i ≡ j) (i : ℕ) (p : i < n) where
    other : (j : ℕ) → j < n → (j ≡ i → ⊥) → N j ≡ N i → ⊥
    other j q e d = e (distinct j i q p d)

    -- ---- a message posted

    waits : (b : Body) → P.waiting i ++ (written (message (next h (N i)) (N i) b) ∷ [])
        ≡ datagrams (suc (h.acknowledged (N i))) (N i) (h.waiting (N i) ++ (b ∷ []))
    waits b =
        let e : suc (h.acknowledged (N i)) + length (h.waiting (N i)) ≡ next h (N i) = omega arith in
        ap₂ (λ (l : List (List ℕ)) (x : ℕ). l ++ (written (message x (N i) b) ∷ [])) (S.waiting_is i p) (sym e)
        ∙ sym (datagrams_snoc (suc (h.acknowledged (N i))) (N i) (h.waiting (N i)) b)

    pub says_posted : (b : Body) → Says N n hosts me f T (posted i (written (message (next h (N i)) (N i) b)) P) (sent (N i) b h)
    says_posted b = record {
      few = S.few;
      own = S.own;
      me_is = S.me_is;
      hosts_are = S.hosts_are;
      peers_are = S.peers_are;
      owner_in = S.owner_in;
      owner_is = S.owner_is;
      record_is = S.record_is;
      sorted = S.sorted;
      received_is = S.received_is;
      acknowledged_is = S.acknowledged_is;
      waiting_is = λ j q.
          ⊎_elim
          (λ (e : j ≡ i).
          subst (λ (x : ℕ). (posted i (written (message (next h (N i)) (N i) b)) P).waiting x ≡ datagrams (suc (h.acknowledged (N x))) (N x) ((sent (N i) b h).waiting (N x)))
          (sym e)
          (peer-same i _ P.waiting ∙ waits b
          ∙ ap (datagrams (suc (h.acknowledged (N i))) (N i)) (sym (at_same (N i) (h.waiting (N i) ++ (b ∷ [])) h.waiting))))
          (λ e.
          peer-other i _ P.waiting j e ∙ S.waiting_is j q
          ∙ ap (datagrams (suc (h.acknowledged (N j))) (N j)) (sym (at_other (N i) (h.waiting (N i) ++ (b ∷ [])) h.waiting (N j) (other j q e))))
          (eq_or_ne j i);
      strange_received = S.strange_received;
      strange_acknowledged = S.strange_acknowledged;
      strange_waiting = λ a s.
          at_other (N i) (h.waiting (N i) ++ (b ∷ [])) h.waiting a (λ e. s i p (sym e)) ∙ S.strange_waiting a s;
    }
