-- What an Ack does to the host that memory keeps, by who sent it and what was known of it.
-- Assumes nothing.
use mathlib.Core.Path.{◌≡◌, refl, sym}
use mathlib.Core.Bool.{true, false, false≢true, true≢false}
use mathlib.Core.List.{List}
use Prim.Native.Nat.{ℕ, ◌≤◌, ◌<◌}
use native.Mathlib.Omega.{arith}
use borrow.Author.Tests.{lt-ltb, le-ltb}
use Rattle.message.specs.Message.{Address}
use Rattle.protocol.specs.Address.{among}
use Rattle.std.specs.Prelude.{Some, None}
use Rattle.peers.specs.Names.{AfterFind}
use Rattle.delivery.specs.declared.Counts.{Counts}
use Rattle.delivery.specs.Answers.{Counted}
use Rattle.confirming.specs.Answers.{AfterConfirm}
use Rattle.hosts.specs.declared.State.{State}
use Rattle.hosts.specs.Memory.{memory}
use Rattle.hosts.proofs.Arrivals.{no_peer, a_peer, acknowledged_as, core_confirmed}
use Rattle.acknowledging.specs.Answers.{AfterAck}

module _ {name_lens names counts places : List ℕ} {k : State} {a : Address} {x : ℕ} where
  -- no peer has the address
  pub unknown : AfterFind name_lens names k.width k.peers a None → AfterAck name_lens names counts places k a x false counts places
  unknown F = record {
    counts_is = λ lows owners keys slots lens values mail h C.
        rw (no_peer (memory lows owners keys slots lens values name_lens names counts places mail) k h C a (F.is C.N C.names_kept)) refl;
    arrived = λ e. absurd (false≢true e);
    stale = λ e. (refl, refl);
  }

  module _ {i : ℕ} {r : Counts} (F : AfterFind name_lens names k.width k.peers a (Some i)) (G : Counted counts i r) where
    -- the peer has acknowledged as much before
    pub nothing_new : x ≤ r.acknowledged → AfterAck name_lens names counts places k a x false counts places
    nothing_new l = record {
      counts_is = λ lows owners keys slots lens values mail h C.
          let m = memory lows owners keys slots lens values name_lens names counts places mail in
          let is = F.is C.N C.names_kept in
          let t : among a h.peers ≡ true = a_peer m k h C i is.0 a is.1 in
          let e : r.acknowledged ≡ h.acknowledged a = acknowledged_as m k h C i is.0 a is.1 G in
          rw t (sym (le-ltb (h.acknowledged a) x (omega (arith, l, e))));
      arrived = λ e. absurd (false≢true e);
      stale = λ e. (refl, refl);
    }

    -- the peer acknowledges more
    pub counted : {counts' places' : List ℕ} → r.acknowledged < x → AfterConfirm counts places i x counts' places'
        → AfterAck name_lens names counts places k a x true counts' places'
    counted {counts'} {places'} l A = record {
      counts_is = λ lows owners keys slots lens values mail h C.
          let m = memory lows owners keys slots lens values name_lens names counts places mail in
          let is = F.is C.N C.names_kept in
          let t : among a h.peers ≡ true = a_peer m k h C i is.0 a is.1 in
          let e : r.acknowledged ≡ h.acknowledged a = acknowledged_as m k h C i is.0 a is.1 G in
          rw t (sym (lt-ltb (h.acknowledged a) x (omega (arith, l, e))));
      arrived = λ e lows owners keys slots lens values mail h C.
          let m = memory lows owners keys slots lens values name_lens names counts places mail in
          let is = F.is C.N C.names_kept in
          let e : r.acknowledged ≡ C.P.acknowledged i = G.acknowledged places mail k.size k.peers C.P C.post_kept is.0 in
          let q : C.P.acknowledged i < x = omega (arith, l, e) in
          core_confirmed m k h C i is.0 a is.1 x counts' places' q (A.is mail k.size k.peers C.P C.post_kept is.0 q);
      stale = λ e. absurd (true≢false e);
    }
