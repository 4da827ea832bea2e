-- The theorem.
-- Assumes nothing.
use mathlib.Core.Path.{◌≡◌, sym, ap, ◌∙◌, subst}
use mathlib.Core.Bool.{true}
use mathlib.Core.List.{List, [], ◌∷◌}
use mathlib.Core.Logic.{inl, inr}
use mathlib.Core.Option.{some, some-injective}
use Prim.Native.Nat.{ℕ, suc, ◌+◌}
use native.Mathlib.Omega.{arith}
use Rattle.message.specs.Message.{Address, Body, Datagram, message, reply, redirect}
use Rattle.decoding.specs.Decode.{same, read}
use Rattle.decoding.proofs.Decided.{same_refl}
use Rattle.decoding.proofs.Laws.{read_written}
use Rattle.protocol.specs.Owners.{owner_of}
use Rattle.protocol.specs.Delivery.{Packet, numbered_from}
use Rattle.protocol.proofs.Addresses.{same_false}
use Rattle.world.specs.World.{Sent, World, begin}
use Rattle.world.specs.Events.{run}
use Rattle.world.specs.Claims.{moves, says}
use Rattle.world.specs.Single.{Among, table_of}
use Rattle.world.specs.Theorem.{Holds, Theorem, Writable}
use Rattle.world.proofs.Lists.{all_among}
use Rattle.world.proofs.Links.{link_made}
use Rattle.world.proofs.Invariant.{Outgoing, way, Speaks, Spoken, Always}
use Rattle.world.proofs.Steps.{always_run}
use Rattle.world.proofs.Begin.{always_begins}
use Rattle.world.proofs.Claimed.{count_claims, one_owner}

module _ {W : World} (A : Always W.hosts W) where
  said : (p : Sent) → Among p W.sent → Spoken W.hosts W.state W.executed W.made p
  said p a = all_among (Spoken W.hosts W.state W.executed W.made) W.sent p A.net a

  -- what was handed out is read as what was written
  reads : (p : Sent) (P : Spoken W.hosts W.state W.executed W.made p) (d : Datagram) → read p.bytes ≡ some d
      → Speaks W.hosts W.state W.executed W.made p d
  reads p P d e =
      subst (λ (z : Datagram). Speaks W.hosts W.state W.executed W.made p z)
      (some-injective P.datagram d (sym (read_written P.datagram P.valid) ∙ ap read (sym P.bytes) ∙ e)) P.speaks

  -- what waits may be written
  waits_writable : (x c : Address) (n : ℕ) (l : List Body) → Outgoing W.hosts W.executed x c n l → (p : Packet) → Among p (numbered_from n c l)
      → Writable p.bytes
  waits_writable x c n [] O p a = absurd a
  waits_writable x c n (b ∷ l) O p (inl e) = (message n c b, O.0, ap (λ (q : Packet). q.bytes) e)
  waits_writable x c n (b ∷ l) O p (inr a) = waits_writable x c (suc n) l O.2 p a

  holds_now : Holds W
  holds_now = record {
    one_owner = λ k. one_owner W k (count_claims W k ∙ A.core.one k);
    one_claim = λ k. count_claims W k ∙ A.core.one k;
    transfers = λ a b e f. link_made (A.core.link a b e f);
    answered = A.core.answered;
    once = A.core.once;
    replies = λ p a n to k v e. (reads p (said p a) (message n to (reply k v)) e).1;
    redirects = λ p a n to k b e. (reads p (said p a) (message n to (redirect k b)) e).1;
    sent_writable = λ p a. let P = said p a in (P.datagram, P.valid, P.bytes);
    waiting_writable = λ x c e p a.
        let u : suc ((W.state x).acknowledged c) ≡ (W.state x).acknowledged c + 1 = omega arith in
        waits_writable x c ((W.state x).acknowledged c + 1) ((W.state x).waiting c)
        (subst (λ (n : ℕ). Outgoing W.hosts W.executed x c n ((W.state x).waiting c)) u ((A.core.local x e).outgoing c)) p a;
    host_records = λ k x e o. A.core.right k x e (ap (λ (z : Address). same z x) o ∙ same_refl x);
    no_other_records = λ k x e n. A.core.clean k x e (same_false (owner_of (W.state x).owners k) x n);
    transfer_records = λ k a b e f m q w.
        all_among (λ c. moves c k ≡ true → says c k ≡ table_of W.executed k) (way W.state a b) m (A.core.right_way k a b e f) q w;
  }

pub theorem : Theorem
theorem first others d s events =
    let A = always_run d s (always_begins first others d) events in
    holds_now (subst (λ (H : List Address). Always H (run (begin first others) events)) (sym A.hosts_are) A)
