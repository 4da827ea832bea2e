-- What arrives, said by peers' numbers: an Ack, a message from a peer, a message from a stranger, who becomes the last peer. And memory that keeps
-- a host keeps it after each.
-- Assumes nothing.
use mathlib.Core.Path.{◌≡◌, refl, sym, ap, ap₂, ◌∙◌, subst}
use mathlib.Core.Bool.{true, false}
use mathlib.Core.List.{List, [], ◌∷◌, ◌++◌}
use Prim.Native.Nat.{ℕ, zero, suc, ◌+◌, ◌-◌, ◌<◌}
use native.Mathlib.Numerals.{add-one}
use native.Mathlib.Omega.{arith}
use lib.ListN.{drop}
use borrow.Author.Tests.{ne_eqb, eq-eqb}
use Rattle.message.specs.Message.{Address, Body}
use Rattle.records.specs.Table.{Table}
use Rattle.std.specs.Prelude.{Option}
use Rattle.peers.specs.Names.{joined as named, AfterFind, Keeps as KeepsNames}
use Rattle.delivery.specs.Post.{Post, at, confirmed, took, joined}
use Rattle.delivery.specs.Memory.{Keeps as KeepsPost}
use Rattle.delivery.specs.declared.Counts.{Counts}
use Rattle.delivery.specs.Answers.{Counted}
use Rattle.delivery.proofs.Laws.{at_other as peer-other, at_all}
use Rattle.protocol.specs.Address.{among, with_address, at as atAddress}
use Rattle.protocol.specs.State.{Host, took as heard}
use Rattle.protocol.specs.Delivery.{confirmed as acknowledged}
use Rattle.hosts.specs.declared.State.{State}
use Rattle.hosts.specs.Memory.{Memory, memory}
use Rattle.hosts.specs.Says.{firsts, datagrams, Strange, Says}
use Rattle.hosts.specs.Keeps.{Core}
use Rattle.protocol.proofs.Addresses.{at_same, at_other}
use Rattle.hosts.proofs.Names.{among_firsts, strange_among}
use Rattle.hosts.proofs.Core.{mailed}

-- the host after a message with the number x arrived from the address a
abbrev pub hearing : Address → ℕ → Body → Host → Host
hearing a x b h = heard a x b (with_address a h.peers) (atAddress a x h.received) h

-- the datagrams that are left are those of the messages that are left, however many are dropped
datagrams_left : (k x : ℕ) (a : Address) (l : List Body) → drop k (datagrams x a l) ≡ datagrams (x + k) a (drop k l)
datagrams_left zero x a l = let e : x + 0 ≡ x = omega arith in rw e refl
datagrams_left (suc k) x a [] = refl
datagrams_left (suc k) x a (b ∷ l) =
    let e : suc x + k ≡ x + suc k = omega arith in
    datagrams_left k (suc x) a l ∙ ap (λ (n : ℕ). datagrams n a (drop k l)) e

-- the first peers' addresses are all that the list says
firsts_same : (N M : ℕ → Address) (n : ℕ) → ((i : ℕ) → i < n → M i ≡ N i) → firsts M n ≡ firsts N n
firsts_same N M zero e = refl
firsts_same N M (suc n) e =
    ap₂ (λ (l : List Address) (a : Address). l ++ (a ∷ [])) (firsts_same N M n (λ i h. e i (omega arith))) (e n (omega arith))

-- a peer's address is on the host's list, and a stranger's is not
module _ (N : ℕ → Address) (n : ℕ) (h : Host) (are : firsts N n ≡ h.peers) where
  among_peer : (i : ℕ) → i < n → among (N i) h.peers ≡ true
  among_peer i p = subst (λ (l : List Address). among (N i) l ≡ true) are (among_firsts N n i p)

  among_none : (a : Address) → Strange N n a → among a h.peers ≡ false
  among_none a s = subst (λ (l : List Address). among a l ≡ false) are (strange_among N n a s)

module _ (N : ℕ → Address) (n hosts me : ℕ) (f : ℕ → ℕ) (T : Table) (P : Post) (h : Host) (S : Says N n hosts me f T P h) where
  module _ (distinct : (i j : ℕ) → i < n → j < n → N i ≡ N j → i ≡ j) (i : ℕ) (p : i < n) where
    other : (j : ℕ) → j < n → (j ≡ i → ⊥) → N j ≡ N i → ⊥
    other j q e d = e (distinct j i q p d)

    -- a change for the peer is one at its address
    by_address : {A : Type 0} (v : A) (g : ℕ → A) (k : Address → A) → ((j : ℕ) → j < n → g j ≡ k (N j))
        → (j : ℕ) → j < n → at i v g j ≡ atAddress (N i) v k (N j)
    by_address v g k e =
        at_all (λ j w. j < n → w ≡ atAddress (N i) v k (N j)) i v g
        (λ q. sym (at_same (N i) v k))
        (λ j d q. e j q ∙ sym (at_other (N i) v k (N j) (other j q d)))

    -- ---- an Ack

    left : (x : ℕ) → P.acknowledged i < x → drop (x - P.acknowledged i) (P.waiting i)
        ≡ datagrams (suc x) (N i) (drop (x - h.acknowledged (N i)) (h.waiting (N i)))
    left x l =
        let a = S.acknowledged_is i p in
        let e : suc (h.acknowledged (N i)) + (x - h.acknowledged (N i)) ≡ suc x = omega (arith, a) in
        ap₂ (λ (y : ℕ) (w : List (List ℕ)). drop (x - y) w) a (S.waiting_is i p)
        ∙ datagrams_left (x - h.acknowledged (N i)) (suc (h.acknowledged (N i))) (N i) (h.waiting (N i))
        ∙ ap (λ (y : ℕ). datagrams y (N i) (drop (x - h.acknowledged (N i)) (h.waiting (N i)))) e

    pub says_confirmed : (x : ℕ) → P.acknowledged i < x → Says N n hosts me f T (confirmed i x P) (acknowledged (N i) x h)
    says_confirmed x l = record {
      few = S.few;
      own = S.own;
      me_is = S.me_is;
      hosts_are = S.hosts_are;
      peers_are = S.peers_are;
      owner_in = S.owner_in;
      owner_is = S.owner_is;
      record_is = S.record_is;
      sorted = S.sorted;
      received_is = S.received_is;
      acknowledged_is = by_address x P.acknowledged h.acknowledged S.acknowledged_is;
      waiting_is = at_all
          (λ j w. j < n → w ≡ datagrams (suc ((acknowledged (N i) x h).acknowledged (N j))) (N j) ((acknowledged (N i) x h).waiting (N j)))
          i
          (drop (x - P.acknowledged i) (P.waiting i))
          P.waiting
          (λ q. left x l ∙ sym (ap₂ (λ (y : ℕ) (w : List Body). datagrams (suc y) (N i) w) (at_same (N i) x h.acknowledged) (at_same (N i) (drop (x - h.acknowledged (N i)) (h.waiting (N i))) h.waiting)))
          (λ j d q.
          let o = other j q d in
          S.waiting_is j q
          ∙ sym (ap₂ (λ (y : ℕ) (w : List Body). datagrams (suc y) (N j) w) (at_other (N i) x h.acknowledged (N j) o) (at_other (N i) (drop (x - h.acknowledged (N i)) (h.waiting (N i))) h.waiting (N j) o)));
      strange_received = S.strange_received;
      strange_acknowledged = λ a s. at_other (N i) x h.acknowledged a (λ e. s i p (sym e)) ∙ S.strange_acknowledged a s;
      strange_waiting = λ a s.
          at_other (N i) (drop (x - h.acknowledged (N i)) (h.waiting (N i))) h.waiting a (λ e. s i p (sym e)) ∙ S.strange_waiting a s;
    }

    -- ---- a message from a peer

    listed : firsts N n ≡ with_address (N i) h.peers
    listed = S.peers_are ∙ rw (among_peer N n h S.peers_are i p) refl

    pub says_took : (x : ℕ) (b : Body) → Says N n hosts me f T (took i x P) (hearing (N i) x b h)
    says_took x b = record {
      few = S.few;
      own = S.own;
      me_is = S.me_is;
      hosts_are = S.hosts_are;
      peers_are = listed;
      owner_in = S.owner_in;
      owner_is = S.owner_is;
      record_is = S.record_is;
      sorted = S.sorted;
      received_is = by_address x P.received h.received S.received_is;
      acknowledged_is = S.acknowledged_is;
      waiting_is = S.waiting_is;
      strange_received = λ a s. at_other (N i) x h.received a (λ e. s i p (sym e)) ∙ S.strange_received a s;
      strange_acknowledged = S.strange_acknowledged;
      strange_waiting = S.strange_waiting;
    }

  -- ---- a message from a stranger

  module _ (a : Address) (strange : Strange N n a) where
    old : (i : ℕ) → i < n → named n a N i ≡ N i
    old i q = rw (ne_eqb i n (λ e. omega arith)) refl

    new : named n a N n ≡ a
    new = rw (eq-eqb n n refl) refl

    -- who is strange now was strange before, and is not the one that joined
    stranger : (b : Address) → Strange (named n a N) (suc n) b → Strange N n b
    stranger b s i q e = s i (omega arith) (old i q ∙ e)

    another : (b : Address) → Strange (named n a N) (suc n) b → b ≡ a → ⊥
    another b s e = s n (omega arith) (new ∙ sym e)

    joined_list : firsts (named n a N) (suc n) ≡ with_address a h.peers
    joined_list =
        ap₂ (λ (l : List Address) (b : Address). l ++ (b ∷ [])) (firsts_same N (named n a N) n old ∙ S.peers_are) new
        ∙ rw (among_none N n h S.peers_are a strange) refl

    -- what holds of the new peer and of each old one holds of all
    each : {A : Type 0} (Q : Address → A → Type 0) (v : A) (g : ℕ → A) → Q a v → ((j : ℕ) → j < n → Q (N j) (g j))
        → (j : ℕ) → j < suc n → Q (named n a N j) (at n v g j)
    each Q v g this those =
        at_all (λ j w. j < suc n → Q (named n a N j) w) n v g
        (λ q. subst (λ (b : Address). Q b v) (sym new) this)
        (λ j d q. let l : j < n = omega arith in subst (λ (b : Address). Q b (g j)) (sym (old j l)) (those j l))

    pub says_joined : (x : ℕ) (b : Body) → Says (named n a N) (suc n) hosts me f T (took n x (joined n P)) (hearing a x b h)
    says_joined x b = record {
      few = omega (arith, S.few);
      own = S.own;
      me_is = old me (omega (arith, S.own, S.few)) ∙ S.me_is;
      hosts_are = firsts_same N (named n a N) hosts (λ i q. old i (omega (arith, q, S.few))) ∙ S.hosts_are;
      peers_are = joined_list;
      owner_in = S.owner_in;
      owner_is = λ k. old (f k) (omega (arith, S.owner_in k, S.few)) ∙ S.owner_is k;
      record_is = S.record_is;
      sorted = S.sorted;
      received_is = each (λ c y. y ≡ atAddress a x h.received c) x (joined n P).received
          (sym (at_same a x h.received))
          (λ j q.
          peer-other n 0 P.received j (λ e. omega arith) ∙ S.received_is j q ∙ sym (at_other a x h.received (N j) (strange j q)));
      acknowledged_is = each (λ c y. y ≡ h.acknowledged c) 0 P.acknowledged (sym (S.strange_acknowledged a strange)) S.acknowledged_is;
      waiting_is = each (λ c w. w ≡ datagrams (suc (h.acknowledged c)) c (h.waiting c)) [] P.waiting
          (sym (ap (datagrams (suc (h.acknowledged a)) a) (S.strange_waiting a strange)))
          S.waiting_is;
      strange_received = λ c s. at_other a x h.received c (another c s) ∙ S.strange_received c (stranger c s);
      strange_acknowledged = λ c s. S.strange_acknowledged c (stranger c s);
      strange_waiting = λ c s. S.strange_waiting c (stranger c s);
    }

-- ---- the memory that keeps it

-- the memory with other names and other words of peers
abbrev pub addressed : Memory → (name_lens names counts : List ℕ) → Memory
addressed m name_lens names counts =
    memory m.lows m.owners m.keys m.slots m.lens m.values name_lens names counts m.places m.mail

-- the numbers of a host with so many peers and a datagram in the room
abbrev pub holding : State → (peers len from : ℕ) → State
holding k peers len from = record {
  me = k.me;
  hosts = k.hosts;
  peers = peers;
  width = k.width;
  size = k.size;
  bounds = k.bounds;
  entries = k.entries;
  len = len;
  from = from;
  transfers = k.transfers;
  turns = k.turns;
}

-- what was found of a peer holds of an answer that is equal to it
pub find_as : {lens names : List ℕ} {w n : ℕ} {a : Address} {r s : Option ℕ} → r ≡ s → AfterFind lens names w n a r → AfterFind lens names w n a s
find_as {lens} {names} {w} {n} {a} e F = subst (λ (r : Option ℕ). AfterFind lens names w n a r) e F

module _ (m : Memory) (k : State) (h : Host) (C : Core m k h) where
  -- no peer has the address a
  pub no_peer : (a : Address) → Strange C.N k.peers a → among a h.peers ≡ false
  no_peer a s = among_none C.N k.peers h C.says.peers_are a s

  -- the address a is that of the peer i
  module _ (i : ℕ) (p : i < k.peers) (a : Address) (is : C.N i ≡ a) where
    pub a_peer : among a h.peers ≡ true
    a_peer = subst (λ (b : Address). among b h.peers ≡ true) is (among_peer C.N k.peers h C.says.peers_are i p)

    -- the peer's numbers, as they are read, are what the host knows of the address
    pub received_as : {r : Counts} → Counted m.counts i r → r.received ≡ h.received a
    received_as G = G.received m.places m.mail k.size k.peers C.P C.post_kept p ∙ C.says.received_is i p ∙ ap h.received is

    pub acknowledged_as : {r : Counts} → Counted m.counts i r → r.acknowledged ≡ h.acknowledged a
    acknowledged_as G =
        G.acknowledged m.places m.mail k.size k.peers C.P C.post_kept p ∙ C.says.acknowledged_is i p ∙ ap h.acknowledged is

    pub core_confirmed : (x : ℕ) (counts places : List ℕ) → C.P.acknowledged i < x
        → KeepsPost counts places m.mail k.size k.peers (confirmed i x C.P) → Core (mailed m counts places m.mail) k (acknowledged a x h)
    core_confirmed x counts places l K =
        subst (λ (b : Address). Core (mailed m counts places m.mail) k (acknowledged b x h)) is
        (record {
          N = C.N;
          f = C.f;
          T = C.T;
          P = confirmed i x C.P;
          sized = C.sized;
          names_kept = C.names_kept;
          map_kept = C.map_kept;
          table_kept = C.table_kept;
          post_kept = K;
          says = says_confirmed _ _ _ _ _ _ _ h C.says C.names_kept.distinct i p x l;
          transfers_is = C.transfers_is;
          turns_is = C.turns_is;
        })

    pub core_took : (x : ℕ) (name_lens names counts : List ℕ) → KeepsNames name_lens names k.width k.peers C.N
        → KeepsPost counts m.places m.mail k.size k.peers (took i x C.P) → (len from : ℕ) (b : Body)
        → Core (addressed m name_lens names counts) (holding k k.peers len from) (hearing a x b h)
    core_took x name_lens names counts L K len from b =
        subst (λ (c : Address). Core (addressed m name_lens names counts) (holding k k.peers len from) (hearing c x b h)) is
        (record {
          N = C.N;
          f = C.f;
          T = C.T;
          P = took i x C.P;
          sized = C.sized;
          names_kept = L;
          map_kept = C.map_kept;
          table_kept = C.table_kept;
          post_kept = K;
          says = says_took _ _ _ _ _ _ _ h C.says C.names_kept.distinct i p x b;
          transfers_is = C.transfers_is;
          turns_is = C.turns_is;
        })

  pub core_joined : (a : Address) → Strange C.N k.peers a → (x : ℕ) (name_lens names counts : List ℕ)
      → KeepsNames name_lens names k.width (k.peers + 1) (named k.peers a C.N)
      → KeepsPost counts m.places m.mail k.size (k.peers + 1) (took k.peers x (joined k.peers C.P)) → (len from : ℕ) (b : Body)
      → Core (addressed m name_lens names counts) (holding k (k.peers + 1) len from) (hearing a x b h)
  core_joined a s x name_lens names counts L K len from b = record {
    N = named k.peers a C.N;
    f = C.f;
    T = C.T;
    P = took k.peers x (joined k.peers C.P);
    sized = C.sized;
    names_kept = L;
    map_kept = C.map_kept;
    table_kept = C.table_kept;
    post_kept = K;
    says = subst
        (λ (n : ℕ). Says (named k.peers a C.N) n k.hosts k.me C.f C.T (took k.peers x (joined k.peers C.P)) (hearing a x b h))
        (sym (add-one k.peers))
        (says_joined _ _ _ _ _ _ _ h C.says a s x b);
    transfers_is = C.transfers_is;
    turns_is = C.turns_is;
  }
