-- Memory that keeps a host keeps the next one: laws that the steps' proofs go by.
-- Assumes nothing.
use mathlib.Core.Path.{◌≡◌, refl, sym, ap, ap₂, ◌∙◌, subst}
use mathlib.Core.Bool.{Bool, true, false}
use mathlib.Core.List.{List, [], ◌∷◌}
use mathlib.Core.Option.{Option}
use Prim.Native.Nat.{ℕ, suc, ◌*◌, ◌-◌, ◌≤◌, ◌<◌}
use native.Mathlib.Omega.{arith}
use lib.ListN.{length, get_or}
use borrow.Author.Tests.{lt-ltb, le-ltb}
use Rattle.limits.specs.Limits.{numbers}
use Rattle.message.specs.Message.{Address, Body, message}
use Rattle.message.specs.Table.{written}
use Rattle.memory.proofs.Parts.{length_part}
use Rattle.peers.proofs.Laws.{place_fits}
use Rattle.delivery.specs.Post.{posted, last}
use Rattle.delivery.specs.Memory.{Keeps as KeepsPost, Standing, mark_at, datagram_at}
use Rattle.protocol.specs.State.{Host, done}
use Rattle.protocol.specs.Records.{look}
use Rattle.format.specs.Format.{Entry, Above}
use Rattle.records.specs.Table.{Table}
use Rattle.records.specs.Memory.{Keeps as KeepsTable}
use Rattle.protocol.specs.Delivery.{Outcome, Request, posted as sent, next, numbered, still}
use Rattle.protocol.specs.Process.{free, answering}
use Rattle.hosts.specs.declared.State.{State}
use Rattle.hosts.specs.declared.Processed.{Processed}
use Rattle.hosts.specs.declared.Processed.TheVariants.{Unnumbered}
use Rattle.hosts.specs.Memory.{Memory, memory, name_at, packet_at}
use Rattle.hosts.specs.Keeps.{Core}
use Rattle.hosts.specs.Answers.{outcome_of, sends_of, emptied, filled, Does}
use Rattle.hosts.proofs.Says.{last_is, says_done, says_posted}

-- the memory with other words of peers and places, and other mail
abbrev pub mailed : Memory → (counts places mail : List ℕ) → Memory
mailed m counts places mail =
    memory m.lows m.owners m.keys m.slots m.lens m.values m.name_lens m.names counts places mail

-- .. and with another table
abbrev pub tabled : Memory → (keys slots lens values : List ℕ) → Memory
tabled m keys slots lens values =
    memory m.lows m.owners keys slots lens values m.name_lens m.names m.counts m.places m.mail

module _ (m : Memory) (k : State) (h : Host) (C : Core m k h) where
  -- the name of a peer stands in memory
  pub name_is : (i : ℕ) → i < k.peers → name_at m.name_lens m.names k.width i ≡ C.N i
  name_is i p = C.names_kept.is i p

  pub name_short : (i : ℕ) → i < k.peers → length (C.N i) ≤ k.width
  name_short i p =
      let s = C.names_kept.short i p in
      let f = place_fits i k.peers k.width (length m.names) p C.names_kept.fits_names in
      let e = length_part m.names (i * k.width) (get_or m.name_lens i 0) (omega (arith, f, s)) in
      omega (arith, s, e, ap length (C.names_kept.is i p))

  -- the room is free, and that is all
  pub core_free : Core m (emptied k) (free h)
  core_free = record {
    N = C.N;
    f = C.f;
    T = C.T;
    P = C.P;
    sized = C.sized;
    names_kept = C.names_kept;
    map_kept = C.map_kept;
    table_kept = C.table_kept;
    post_kept = C.post_kept;
    says = says_done _ _ _ _ _ _ _ h C.says C.f C.T h.owners h.records h.transfers C.says.owner_in C.says.owner_is
        C.says.record_is
        C.says.sorted;
    transfers_is = C.transfers_is;
    turns_is = C.turns_is;
  }

  -- other records, and the room is free
  abbrev pub core_stored : (keys slots lens values : List ℕ) (n : ℕ) (T : Table) (l : List Entry) → KeepsTable keys slots lens values n T
      → ((j : ℕ) → T j ≡ look j l) → Above 0 l → Core (tabled m keys slots lens values) (filled k n) (done h.owners l h.transfers h)
  core_stored keys slots lens values n T l K e s = record {
    N = C.N;
    f = C.f;
    T = T;
    P = C.P;
    sized = C.sized;
    names_kept = C.names_kept;
    map_kept = C.map_kept;
    table_kept = K;
    post_kept = C.post_kept;
    says = says_done _ _ _ _ _ _ _ h C.says C.f T h.owners l h.transfers C.says.owner_in C.says.owner_is e s;
    transfers_is = C.transfers_is;
    turns_is = C.turns_is;
  }

  -- one more message waits for peer i, and the room is free
  pub core_sent : (i : ℕ) → i < k.peers → (b : Body) (counts places mail : List ℕ)
      → KeepsPost counts places mail k.size k.peers (posted i (written (message (next h (C.N i)) (C.N i) b)) C.P)
      → Core (mailed m counts places mail) (emptied k) (sent (C.N i) b (free h))
  core_sent i p b counts places mail K =
      record {
        N = C.N;
        f = C.f;
        T = C.T;
        P = posted i (written (message (next h (C.N i)) (C.N i) b)) C.P;
        sized = C.sized;
        names_kept = C.names_kept;
        map_kept = C.map_kept;
        table_kept = C.table_kept;
        post_kept = K;
        says = says_done _ _ _ _ _ _ _ (sent (C.N i) b h) (says_posted _ _ _ _ _ _ _ h C.says C.names_kept.distinct i p b) C.f C.T h.owners h.records h.transfers C.says.owner_in C.says.owner_is
            C.says.record_is
            C.says.sorted;
        transfers_is = C.transfers_is;
        turns_is = C.turns_is;
      }

  -- what the room held is dropped
  pub does_dropped : (r : Processed) → sends_of m (emptied k) r ≡ [] → Does m (emptied k) r (still (free h) (outcome_of r))
  does_dropped r e = record { core = core_free; outcome = refl; sends = e }

  -- ---- a step that answers peer i, which has the address a

  module _ (i : ℕ) (p : i < k.peers) (a : Address) (named : name_at m.name_lens m.names k.width i ≡ a) where
    address_is : C.N i ≡ a
    address_is = sym (name_is i p) ∙ named

    -- the number that was picked is the definition's
    pub number_is : (x : ℕ) → x ≡ suc (last C.P i) → x ≡ next h (C.N i)
    number_is x e = e ∙ last_is _ _ _ _ _ _ _ h C.says i p

    pub has_number : (x : ℕ) → x ≡ suc (last C.P i) → x < numbers → numbered h a ≡ true
    has_number x e small =
        subst (λ (y : Address). numbered h y ≡ true) address_is
        (lt-ltb (next h (C.N i)) numbers (subst (λ (y : ℕ). y < numbers) (number_is x e) small))

    pub no_number : numbers ≤ suc (last C.P i) → numbered h a ≡ false
    no_number full =
        subst (λ (y : Address). numbered h y ≡ false) address_is
        (le-ltb (next h (C.N i)) numbers (subst (λ (y : ℕ). numbers ≤ y) (number_is (suc (last C.P i)) refl) full))

    -- a message waits in place q, and is handed out
    pub answered : (x : ℕ) → x ≡ suc (last C.P i) → x < numbers → (b : Body) (q : ℕ) (counts places mail : List ℕ)
        → KeepsPost counts places mail k.size k.peers (posted i (written (message x (C.N i) b)) C.P)
        → Standing places mail k.size q i x (written (message x (C.N i) b)) → (r : Processed) → (e : Option Request)
        → sends_of (mailed m counts places mail) (emptied k) r ≡ packet_at (mailed m counts places mail) k.width k.size q ∷ []
        → Does (mailed m counts places mail) (emptied k) r (answering (numbered h a) (free h) a b (outcome_of r) e)
    answered x xe small b q counts places mail K S r e one =
        let n : x ≡ next h (C.N i) = number_is x xe in
        let t : numbered h (C.N i) ≡ true = lt-ltb (next h (C.N i)) numbers (subst (λ (y : ℕ). y < numbers) n small) in
        let K' = subst (λ (y : ℕ). KeepsPost counts places mail k.size k.peers (posted i (written (message y (C.N i) b)) C.P)) n K in
        let S' = subst (λ (y : ℕ). datagram_at places mail k.size q ≡ written (message y (C.N i) b)) n S.is in
        let M = mailed m counts places mail in
        let w : mark_at places q - 1 ≡ i = omega (arith, S.mark) in
        let to : name_at m.name_lens m.names k.width (mark_at places q - 1) ≡ C.N i =
        ap (name_at m.name_lens m.names k.width) w ∙ name_is i p in
        let D : Does M (emptied k) r (answering true (free h) (C.N i) b (outcome_of r) e) = record {
          core = core_sent i p b counts places mail K';
          outcome = refl;
          sends = one ∙ ap₂ (λ (u : Address) (v : List ℕ). record { to = u; bytes = v } ∷ []) to S';
        } in
        subst (λ (y : Address). Does M (emptied k) r (answering (numbered h y) (free h) y b (outcome_of r) e)) address_is
        (subst (λ (y : Bool). Does M (emptied k) r (answering y (free h) (C.N i) b (outcome_of r) e)) (sym t) D)

    -- no number is left, and the room is free
    pub unanswered : numbers ≤ suc (last C.P i) → (b : Body) (o : Outcome) (e : Option Request)
        → Does m (emptied k) Unnumbered (answering (numbered h a) (free h) a b o e)
    unanswered full b o e =
        let n : suc (last C.P i) ≡ next h (C.N i) = number_is (suc (last C.P i)) refl in
        let t : numbered h (C.N i) ≡ false = le-ltb (next h (C.N i)) numbers (subst (λ (y : ℕ). numbers ≤ y) n full) in
        subst (λ (y : Address). Does m (emptied k) Unnumbered (answering (numbered h y) (free h) y b o e)) address_is
        (subst (λ (y : Bool). Does m (emptied k) Unnumbered (answering y (free h) (C.N i) b o e)) (sym t)
        (record { core = core_free; outcome = refl; sends = refl }))
