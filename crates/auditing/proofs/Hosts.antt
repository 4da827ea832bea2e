-- The host that memory keeps, made from its parts; and the parts of a host that memory keeps.
-- Assumes nothing.
use mathlib.Core.Path.{◌≡◌, refl, sym, ap, ap₂, ◌∙◌, subst}
use mathlib.Core.Bool.{Bool, true, false, cond}
use mathlib.Core.List.{List, []}
use mathlib.Core.Option.{Option}
use Prim.Native.Nat.{ℕ, suc, ◌+◌, ◌-◌, ◌≤◌, ◌<◌}
use native.Mathlib.Omega.{arith}
use lib.ListN.{length, get_or}
use Rattle.message.specs.Message.{Address, Body}
use Rattle.records.specs.Table.{Table}
use Rattle.records.specs.Memory.{Keeps as KeepsTable, value_at}
use Rattle.delegation.specs.Map.{Keeps as KeepsMap}
use Rattle.peers.specs.Names.{Keeps as KeepsNames}
use Rattle.delivery.specs.Post.{Post}
use Rattle.delivery.specs.Memory.{Keeps as KeepsPost, datagram_at, number_at}
use Rattle.protocol.specs.Address.{among}
use Rattle.protocol.specs.State.{Host, Letter}
use Rattle.hosts.specs.declared.State.{State}
use Rattle.hosts.specs.Memory.{Memory}
use Rattle.hosts.specs.Says.{firsts, datagrams, Strange}
use Rattle.hosts.specs.Limits.{index_of}
use Rattle.hosts.specs.Keeps.{Sized, Core}
use Rattle.hosts.proofs.Names.{among_firsts, firsts_among, strange_among}
use Rattle.hosts.proofs.Maps.{index_name}
use Rattle.hosts.proofs.Tables.{made}
use Rattle.hosts.proofs.Says.{length_datagrams}
use Rattle.audits_mail.specs.Answers.{MessageTo, Mailed}
use Rattle.auditing.specs.Sendable.{AllValid, Sendable}
use Rattle.auditing.proofs.Rows.{made_above, made_look, given, given_all}
use Rattle.auditing.proofs.Letters.{bodies, bodies_are, datagrams_are}

-- ---- what is known by peers' numbers, by addresses

-- of the address of a peer what is known of it, and of any other z
abbrev known : {A : Type 0} → (ℕ → Address) → ℕ → A → (ℕ → A) → Address → A
known N n z g a = cond (among a (firsts N n)) (g (index_of a (firsts N n))) z

module _ {A : Type 0} (N : ℕ → Address) (n : ℕ) (z : A) (g : ℕ → A) where
  known_peer : ((i j : ℕ) → i < n → j < n → N i ≡ N j → i ≡ j) → (i : ℕ) → i < n → known N n z g (N i) ≡ g i
  known_peer d i h = rw (among_firsts N n i h, index_name N n d i h) refl

  known_strange : (a : Address) → Strange N n a → known N n z g a ≡ z
  known_strange a s = rw (strange_among N n a s) refl

-- ---- the host

abbrev pub host_of : Memory → State → (ℕ → Address) → Post → Option Letter → Host
host_of m k N P o = record {
  me = N k.me;
  hosts = firsts N k.hosts;
  owners = record { first = N 0; grants = given N m.lows m.owners k.bounds };
  records = made (λ i. get_or m.keys i 0) (value_at m.slots m.lens m.values) 0 k.entries;
  peers = firsts N k.peers;
  received = known N k.peers 0 P.received;
  acknowledged = known N k.peers 0 P.acknowledged;
  waiting = known N k.peers [] (λ i. bodies (P.waiting i));
  room = o;
  transfers = k.transfers;
  turns = k.turns;
}

module _ (m : Memory) (k : State) (N : ℕ → Address) (f : ℕ → ℕ) (T : Table) (P : Post) (sized : Sized k.width k.size)
    (few : k.hosts ≤ k.peers) (own : k.me < k.hosts) (KN : KeepsNames m.name_lens m.names k.width k.peers N)
    (KM : KeepsMap m.lows m.owners k.bounds f) (within : (x : ℕ) → f x < k.hosts)
    (KT : KeepsTable m.keys m.slots m.lens m.values k.entries T)
    (KP : KeepsPost m.counts m.places m.mail k.size k.peers P) (M : Mailed m.places m.mail k.size N) where
  -- each datagram that waits for peer i is a message to it
  messages : (i : ℕ) → i < k.peers → (j : ℕ) → j < length (P.waiting i) → MessageTo (suc (P.acknowledged i) + j) (N i) (get_or (P.waiting i) j [])
  messages i h j q =
      let w = KP.holding.here i j h q in
      let e : number_at m.places w.0 ≡ suc (P.acknowledged i) + j = omega (arith, w.3) in
      subst (λ (s : List ℕ). MessageTo (suc (P.acknowledged i) + j) (N i) s) w.4
      (subst (λ (x : ℕ). MessageTo x (N i) (datagram_at m.places m.mail k.size w.0)) e (M w.0 w.1 i w.2))

  letters : (i : ℕ) → i < k.peers
      → (P.waiting i ≡ datagrams (suc (P.acknowledged i)) (N i) (bodies (P.waiting i))) × AllValid (suc (P.acknowledged i)) (N i) (bodies (P.waiting i))
  letters i h = bodies_are (suc (P.acknowledged i)) (N i) (P.waiting i) (messages i h)

  module _ (o : Option Letter) where
    acknowledged_as : (i : ℕ) → i < k.peers → P.acknowledged i ≡ (host_of m k N P o).acknowledged (N i)
    acknowledged_as i q = sym (known_peer N k.peers 0 P.acknowledged KN.distinct i q)

    waiting_as : (i : ℕ) → i < k.peers → bodies (P.waiting i) ≡ (host_of m k N P o).waiting (N i)
    waiting_as i q = sym (known_peer N k.peers [] (λ i. bodies (P.waiting i)) KN.distinct i q)

    pub made_core : Core m k (host_of m k N P o)
    made_core = record {
      N = N;
      f = f;
      T = T;
      P = P;
      sized = sized;
      names_kept = KN;
      map_kept = KM;
      table_kept = KT;
      post_kept = KP;
      says = record {
        few = few;
        own = own;
        me_is = refl;
        hosts_are = refl;
        peers_are = refl;
        owner_in = within;
        owner_is = λ x. given_all N KM (N 0) x;
        record_is = λ x. made_look KT.listed x;
        sorted = made_above KT.listed;
        received_is = λ i q. sym (known_peer N k.peers 0 P.received KN.distinct i q);
        acknowledged_is = acknowledged_as;
        waiting_is = λ i q.
            (letters i q).0
            ∙ ap₂ (λ (x : ℕ) (l : List Body). datagrams (suc x) (N i) l) (acknowledged_as i q) (waiting_as i q);
        strange_received = λ a s. known_strange N k.peers 0 P.received a s;
        strange_acknowledged = λ a s. known_strange N k.peers 0 P.acknowledged a s;
        strange_waiting = λ a s. known_strange N k.peers [] (λ i. bodies (P.waiting i)) a s;
      };
      transfers_is = refl;
      turns_is = refl;
    }

    pub made_sendable : Sendable (host_of m k N P o)
    made_sendable a = go (among a (firsts N k.peers)) refl
      where
        go : (t : Bool) → among a (firsts N k.peers) ≡ t → AllValid (suc ((host_of m k N P o).acknowledged a)) a ((host_of m k N P o).waiting a)
        go true e =
            let w = firsts_among N k.peers a e in
            subst (λ (b : Address). AllValid (suc ((host_of m k N P o).acknowledged b)) b ((host_of m k N P o).waiting b)) w.2
            (subst (λ (l : List Body). AllValid (suc ((host_of m k N P o).acknowledged (N w.0))) (N w.0) l) (waiting_as w.0 w.1)
            (subst (λ (x : ℕ). AllValid (suc x) (N w.0) (bodies (P.waiting w.0))) (acknowledged_as w.0 w.1)
            (letters w.0 w.1).1))
        go false e = rw e tt

-- ---- the parts of a host

-- each datagram that waits for a host whose messages may be written is one of them
module _ (m : Memory) (k : State) (h : Host) (C : Core m k h) (S : Sendable h) where
  pub core_mailed : Mailed m.places m.mail k.size C.N
  core_mailed p b i e =
      let H = C.post_kept.holding in
      let o = H.only p i b e in
      let a : ℕ = C.P.acknowledged i in
      let x : ℕ = number_at m.places p in
      let j : ℕ = x - suc a in
      let q : j < length (C.P.waiting i) = omega (arith, o.1, o.2) in
      let w = H.here i j o.0 q in
      let n : suc a + j ≡ x = omega (arith, o.1) in
      let s : w.0 ≡ p = H.apart w.0 p w.1 b (omega (arith, w.2)) (w.2 ∙ sym e) (omega (arith, w.3, n)) in
      let l = ap length (C.says.waiting_is i o.0) ∙ length_datagrams (suc (h.acknowledged (C.N i))) (C.N i) (h.waiting (C.N i)) in
      let r = datagrams_are (suc (h.acknowledged (C.N i))) (C.N i) (h.waiting (C.N i)) (S (C.N i)) j (omega (arith, q, l)) in
      let y : suc (h.acknowledged (C.N i)) + j ≡ x = omega (arith, n, C.says.acknowledged_is i o.0) in
      let d : get_or (datagrams (suc (h.acknowledged (C.N i))) (C.N i) (h.waiting (C.N i))) j [] ≡ datagram_at m.places m.mail k.size p =
      sym (ap (λ (l : List (List ℕ)). get_or l j []) (C.says.waiting_is i o.0)) ∙ sym w.4
      ∙ ap (datagram_at m.places m.mail k.size) s in
      subst (λ (t : List ℕ). MessageTo x (C.N i) t) d
      (subst (λ (z : ℕ). MessageTo z (C.N i) (get_or (datagrams (suc (h.acknowledged (C.N i))) (C.N i) (h.waiting (C.N i))) j [])) y r)
