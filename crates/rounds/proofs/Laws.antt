-- The count of turns goes on, and nothing else changes.
-- Assumes nothing.
use mathlib.Core.Path.{◌≡◌, refl, sym, ap, ◌∙◌, subst}
use mathlib.Core.Bool.{Bool, true, false, false≢true}
use mathlib.Core.List.{List, [], ◌∷◌}
use mathlib.Core.Option.{Option, none, some}
use Prim.Native.Nat.{ℕ, ◌+◌, ◌%◌, ◌<◌}
use native.Mathlib.Omega.{arith}
use native.Mathlib.Nat.{mod-add-mod}
use lib.ListN.{length}
use lib.Dec.{eqb}
use borrow.Author.Tests.{eq-eqb, ne_eqb}
use Rattle.message.specs.Message.{Address, Body, get, set, reply, redirect, shard, delegate}
use Rattle.protocol.specs.State.{Host, Letter, turned}
use Rattle.protocol.specs.Delivery.{still, waits}
use Rattle.protocol.specs.Turn.{round, over, ended, resending}
use Rattle.hosts.specs.declared.State.{State}
use Rattle.hosts.specs.declared.Processed.{Processed}
use Rattle.hosts.specs.declared.Processed.TheVariants.{Idle, Stuck, Replied, Redirected, Dropped, Unnumbered, Accepted, Handed}
use Rattle.hosts.specs.Memory.{Memory, memory}
use Rattle.hosts.specs.Limits.{Limits, waiting_for, Needs}
use Rattle.hosts.specs.Keeps.{Core, limits_of, RoomCases, Keeps}
use Rattle.hosts.specs.Answers.{sends_of as processedSends}
use Rattle.std.specs.Prelude.{Ok}
use Rattle.repeating.specs.Answers.{AfterRepeat}
use Rattle.rounds.specs.declared.Turned.TheVariants.{Resent, Waits}
use Rattle.rounds.specs.declared.Ended.{Ended}
use Rattle.rounds.specs.Answers.{Turns, counted, over_of, refusal, AfterAgain}

-- ---- the count of turns is in no other clause

waiting_turned : (n : ℕ) (h : Host) (l : List Address) → waiting_for (turned n h) l ≡ waiting_for h l
waiting_turned n h [] = refl
waiting_turned n h (a ∷ l) = ap (λ (x : ℕ). length (h.waiting a) + x) (waiting_turned n h l)

needs_turned : (L : Limits) (n : ℕ) (h : Host) (l : Letter) (b : Body) → Needs L h l b → Needs L (turned n h) l b
needs_turned L n h l (get k) N = subst (λ (x : ℕ). x < L.waiting) (sym (waiting_turned n h h.peers)) N
needs_turned L n h l (set k v) N = λ e. subst (λ (x : ℕ). x < L.waiting) (sym (waiting_turned n h h.peers)) (N e)
needs_turned L n h l (shard lo hi a) N = λ e. (subst (λ (x : ℕ). x < L.waiting) (sym (waiting_turned n h h.peers)) (N e).0, (N e).1)
needs_turned L n h l (delegate lo hi es) N = N
needs_turned L n h l (reply k v) N = tt
needs_turned L n h l (redirect k a) N = tt

module _ (m : Memory) (k : State) (h : Host) (C : Core m k h) where
  core_over : Core m (over_of k) (over h)
  core_over = record {
    N = C.N;
    f = C.f;
    T = C.T;
    P = C.P;
    sized = C.sized;
    names_kept = C.names_kept;
    map_kept = C.map_kept;
    table_kept = C.table_kept;
    post_kept = C.post_kept;
    says = record {
      few = C.says.few;
      own = C.says.own;
      me_is = C.says.me_is;
      hosts_are = C.says.hosts_are;
      peers_are = C.says.peers_are;
      owner_in = C.says.owner_in;
      owner_is = C.says.owner_is;
      record_is = C.says.record_is;
      sorted = C.says.sorted;
      received_is = C.says.received_is;
      acknowledged_is = C.says.acknowledged_is;
      waiting_is = C.says.waiting_is;
      strange_received = C.says.strange_received;
      strange_acknowledged = C.says.strange_acknowledged;
      strange_waiting = C.says.strange_waiting;
    };
    transfers_is = C.transfers_is;
    turns_is = ap (λ (t : ℕ). (t + 1) % round) C.turns_is;
  }

pub keeps_over : (m : Memory) (k : State) (room : List ℕ) (h : Host) → Keeps m k room h → Keeps m (over_of k) room (over h)
keeps_over m k room h K = record { core = core_over m k h K.core; room_is = go h.room K.room_is }
  where
    go : (o : Option Letter) → RoomCases m k room h o → RoomCases m (over_of k) room (over h) o
    go none R = R
    go (some l) R = (R.0, R.1, R.2, R.3, R.4, needs_turned (limits_of m k room) ((h.turns + 1) % round) h l l.body R.5)

pub sends_over : (m : Memory) (k : State) (r : Processed) → processedSends m (over_of k) r ≡ processedSends m k r
sends_over m k Idle = refl
sends_over m k Stuck = refl
sends_over m k (Replied p) = refl
sends_over m k (Redirected p) = refl
sends_over m k Dropped = refl
sends_over m k Unnumbered = refl
sends_over m k Accepted = refl
sends_over m k (Handed p) = refl

-- the count is taken within a round before it is raised, so that it cannot run over
pub goes_on : (k : State) → counted ((k.turns % round + 1) % round) k ≡ over_of k
goes_on k = ap (λ (n : ℕ). counted n k) (mod-add-mod k.turns round 1)

-- ---- a turn without a step

module _ {m : Memory} {k : State} {room : List ℕ} {a : Address} {ack : List ℕ} where
  -- nothing is done on this turn
  pub waited : (h : Host) → Keeps m k room h → (out : List ℕ) → Turns m (over_of k) room a ack out Waits (ended (still h waits))
  waited h K out = record { keeps = keeps_over m k room h K; outcome = refl; sends = refl }

-- ---- sending again

module _ {counts places : List ℕ} {k : State} {out : List ℕ} where
  -- it is not the turn for it
  pub not_due : {f : State} → (k.turns + 1 ≡ round → ⊥) → f ≡ over_of k → AfterAgain counts places k out (record { state = f; outcome = Waits; place = 0 }) out
  not_due {f} n q = subst (λ (g : State). AfterAgain counts places k out (record { state = g; outcome = Waits; place = 0 }) out) (sym q) (record {
    is = λ lows owners keys slots lens values name_lens names mail room h K c a ack.
        let e : eqb (h.turns + 1) round ≡ false = ne_eqb (h.turns + 1) round (λ d. n (ap (λ (t : ℕ). t + 1) K.core.turns_is ∙ d)) in
        subst (λ (t : Bool). Turns (memory lows owners keys slots lens values name_lens names counts places mail) (over_of k) room a ack out Waits (ended (resending t h))) (sym e)
        (waited h K out);
    fit = λ c. refl;
    refused = λ t. absurd (false≢true t);
  })

  pub due : {out' : List ℕ} {f : State} {n : ℕ} → k.turns + 1 ≡ round → AfterRepeat counts places k out (Ok n) out' → f ≡ over_of k
      → AfterAgain counts places k out (record { state = f; outcome = Resent n; place = 0 }) out'
  due {out'} {f} {n} d R q = subst (λ (g : State). AfterAgain counts places k out (record { state = g; outcome = Resent n; place = 0 }) out') (sym q) (record {
    is = λ lows owners keys slots lens values name_lens names mail room h K c a ack.
        let M = memory lows owners keys slots lens values name_lens names counts places mail in
        let e : eqb (h.turns + 1) round ≡ true = eq-eqb (h.turns + 1) round (ap (λ (t : ℕ). t + 1) (sym K.core.turns_is) ∙ d) in
        subst (λ (t : Bool). Turns M (over_of k) room a ack out' (Resent n) (ended (resending t h))) (sym e)
        (record {
          keeps = keeps_over M k room h K;
          outcome = refl;
          sends = R.is.1 lows owners keys slots lens values name_lens names mail h K.core;
        });
    fit = λ c. refl;
    refused = λ t. absurd (false≢true t);
  })
