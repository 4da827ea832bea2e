-- What was handed out stays true, whatever happens after; and a step is fine if what holds always holds after it, too.
-- Assumes nothing.
use mathlib.Core.Path.{◌≡◌, sym, ap, ◌∙◌, subst}
use mathlib.Core.Bool.{true}
use mathlib.Core.List.{List, [], ◌∷◌, ◌++◌, append-nil}
use mathlib.Core.Option.{none, some, some-injective}
use Prim.Native.Nat.{ℕ, ◌≤◌, ◌<◌}
use native.Mathlib.Omega.{arith}
use lib.ListN.{length, take}
use Rattle.limits.specs.Limits.{bytes_max}
use Rattle.message.specs.Message.{Address, Body, Datagram, message, ack}
use Rattle.message.specs.Table.{Valid}
use Rattle.decoding.specs.Decode.{read}
use Rattle.decoding.proofs.Laws.{read_written, read_some}
use Rattle.protocol.specs.Address.{among, at}
use Rattle.protocol.specs.Delivery.{Packet, Outcome, Step}
use Rattle.world.specs.World.{Sent, Executed, World}
use Rattle.world.specs.Events.{nth, Trace, passes, trace_of, moved_by, moved, made_after, carried_after, executed_after, sent_by, after}
use Rattle.world.proofs.Lists.{All, all_append, all_map, all_take, nth_append}
use Rattle.world.proofs.Invariant.{States, Moves, Told, Core, Speaks, Spoken, Always}
use Rattle.world.proofs.Changes.{at_same_state}

-- ---- what was handed out stays true

-- counts of what was received and lists of what was made only grow, and so do the requests that were carried out
pub record Grows (H : List Address) (S : States) (E : List Executed) (M : Moves) (S' : States) (E' : List Executed) (M' : Moves) : Type 0 where
  pub received : (y c : Address) → (S y).received c ≤ (S' y).received c
  pub made : (a b : Address) → (l : List Body) × (M' a b ≡ M a b ++ l)
  pub told : (x c : Address) (n : ℕ) (b : Body) → Told H E x c n b → Told H E' x c n b

pub grows_not : (H : List Address) (S : States) (E : List Executed) (M : Moves) → Grows H S E M S E M
grows_not H S E M = record { received = λ y c. omega arith; made = λ a b. ([], sym (append-nil (M a b))); told = λ x c n b T. T }

module _ {H : List Address} {S : States} {E : List Executed} {M : Moves} {S' : States} {E' : List Executed} {M' : Moves}
    (G : Grows H S E M S' E' M') where
  speaks_still : (p : Sent) (d : Datagram) → Speaks H S E M p d → Speaks H S' E' M' p d
  speaks_still p (message n a b) Q = (
    Q.0,
    G.told p.from p.to n b Q.1,
    λ e.
        let R = Q.2 e in
        let m = G.made p.from p.to in
        (R.0, R.1, subst (λ (l : List Body). nth R.0 l ≡ some b) (sym m.1) (nth_append R.0 (M p.from p.to) m.0 b R.2)),
  )
  speaks_still p (ack n) Q = λ e. let u = G.received p.from p.to in omega (arith, Q e, u)

  pub spoken_still : (p : Sent) → Spoken H S E M p → Spoken H S' E' M' p
  spoken_still p P = record {
    datagram = P.datagram;
    valid = P.valid;
    bytes = P.bytes;
    from = P.from;
    speaks = speaks_still p P.datagram P.speaks;
  }

-- ---- a step that is fine

abbrev pub packet_of : Address → Packet → Sent
packet_of x p = record { from = x; to = p.to; bytes = p.bytes }

-- the world has changed to these parts, and these datagrams are handed out: the core goes on, all that was said stays true, and so is what is
-- said now
pub record Goes (H : List Address) (W : World) (x : Address) (S : States) (E : List Executed) (M C : Moves) (sends : List Packet) : Type 0 where
  pub core : Core H S E M C
  pub grows : Grows H W.state W.executed W.made S E M
  pub spoken : All (λ p. Spoken H S E M (packet_of x p)) sends

-- .. by the step s of the host x
abbrev pub Fine : (H : List Address) → World → Address → Step → Type 0
Fine H W x s =
    Goes H W x (at x s.state W.state) (executed_after x (W.state x) s.executed W.executed)
    (made_after x (moved (W.state x) s.outcome) W.made) (carried_after x (moved (W.state x) s.outcome) W.carried) s.sends

all_sent : (P : Sent → Type 0) (x : Address) (l : List Packet) → All (λ p. P (packet_of x p)) l → All P (sent_by x l)
all_sent P x [] A = tt
all_sent P x (p ∷ l) A = (A.0, all_sent P x l A.1)

pub always_after : {H : List Address} {W : World} (x : Address) (n : ℕ) (s : Step) → Always H W → Fine H W x s → Always H (after W x n s)
always_after {H} {W} x n s A F = record {
  hosts_are = A.hosts_are;
  core = F.core;
  net = all_append (Spoken H (after W x n s).state (after W x n s).executed (after W x n s).made) W.sent (sent_by x (take n s.sends))
      (all_map (Spoken H W.state W.executed W.made) (Spoken H (after W x n s).state (after W x n s).executed (after W x n s).made)
      (spoken_still F.grows) W.sent A.net)
      (all_sent (Spoken H (after W x n s).state (after W x n s).executed (after W x n s).made) x (take n s.sends)
      (all_take (λ p. Spoken H (after W x n s).state (after W x n s).executed (after W x n s).made (packet_of x p)) n s.sends F.spoken));
}

-- a step that leaves the host as it is, and tells the truth
pub fine_same : {H : List Address} {W : World} → Always H W → (x : Address) (sends : List Packet) (o : Outcome) → trace_of o ≡ passes
    → All (λ p. Spoken H W.state W.executed W.made (packet_of x p)) sends
    → Fine H W x (record { state = W.state x; sends = sends; outcome = o; executed = none })
fine_same {H} {W} A x sends o t P =
    subst
    (λ (k : Trace).
    Goes H W x (at x (W.state x) W.state) W.executed (made_after x (moved_by k (W.state x) (W.state x).room) W.made)
    (carried_after x (moved_by k (W.state x) (W.state x).room) W.carried) sends)
    (sym t)
    (subst (λ (T : States). Goes H W x T W.executed W.made W.carried sends) (sym (at_same_state x W.state))
    (record { core = A.core; grows = grows_not H W.state W.executed W.made; spoken = P }))

-- ---- what arrives

-- it comes from a stranger, or is what a host has handed out
pub record From (H : List Address) (S : States) (E : List Executed) (M : Moves) (x a : Address) (s : List ℕ) : Type 0 where
  pub short : length a < bytes_max
  pub host : among a H ≡ true → Spoken H S E M (record { from = a; to = x; bytes = s })

-- the message that it is may be written, and is true if a host has sent it
pub from_read : {H : List Address} {S : States} {E : List Executed} {M : Moves} {x a : Address} {s : List ℕ} → From H S E M x a s → (d : Datagram)
    → read s ≡ some d → Valid d × (among a H ≡ true → Speaks H S E M (record { from = a; to = x; bytes = s }) d)
from_read {H} {S} {E} {M} {x} {a} {s} F d e = (
  (read_some s d e).0,
  λ h.
      let P = F.host h in
      let q : P.datagram ≡ d =
      some-injective P.datagram d (sym (read_written P.datagram P.valid) ∙ ap read (sym P.bytes) ∙ e) in
      subst (λ (z : Datagram). Speaks H S E M (record { from = a; to = x; bytes = s }) z) q P.speaks,
)
