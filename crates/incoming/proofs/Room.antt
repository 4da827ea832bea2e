-- A message was taken: what it needs is still there for the host that has it in its room, and there was room for it before.
-- Assumes nothing.
use mathlib.Core.Path.{◌≡◌, refl, sym, ap, ◌∙◌, subst}
use mathlib.Core.Bool.{Bool, true, false, cond}
use mathlib.Core.List.{List, [], ◌∷◌, ◌++◌}
use mathlib.Core.Option.{some}
use Prim.Native.Nat.{ℕ, min, ◌+◌, ◌/◌, ◌≤◌, ◌<◌}
use native.Mathlib.Omega.{arith}
use lib.ListN.{length, length-append}
use Rattle.message.specs.Message.{Address, Body, get, set, reply, redirect, shard, delegate, message}
use Rattle.decoding.specs.Decode.{read}
use Rattle.decoding.proofs.Laws.{read_some}
use Rattle.peers.specs.Names.{places}
use Rattle.peers.proofs.Laws.{keeps_places}
use Rattle.protocol.specs.Address.{among, with_address}
use Rattle.protocol.specs.State.{Host, Letter}
use Rattle.hosts.specs.declared.State.{State}
use Rattle.hosts.specs.Memory.{Memory}
use Rattle.hosts.specs.Limits.{waiting_for, Needs, Known, Roomy}
use Rattle.hosts.specs.Keeps.{Core, limits_of, Keeps}
use Rattle.hosts.proofs.Names.{length_firsts, among_strange}
use Rattle.hosts.proofs.Core.{name_is, name_short}
use Rattle.hosts.proofs.Arrivals.{hearing, addressed}
use Rattle.taking.specs.Answers.{InRoom, Kept}

-- ---- what waits

module _ (h : Host) (a : Address) (n : ℕ) (b : Body) where
  waiting_same : (l : List Address) → waiting_for (hearing a n b h) l ≡ waiting_for h l
  waiting_same [] = refl
  waiting_same (c ∷ l) = ap (λ (x : ℕ). length (h.waiting c) + x) (waiting_same l)

  -- one more address, for which nothing waits
  waiting_more : h.waiting a ≡ [] → (l : List Address) → waiting_for (hearing a n b h) (l ++ (a ∷ [])) ≡ waiting_for h l
  waiting_more e [] = ap (λ (w : List Body). length w + 0) e
  waiting_more e (c ∷ l) = ap (λ (x : ℕ). length (h.waiting c) + x) (waiting_more e l)

-- a letter's bytes are some
some_bytes : (s : List ℕ) (n : ℕ) (to : Address) (b : Body) → read s ≡ some (message n to b) → 0 < length s
some_bytes s n to b e = subst (λ (l : List ℕ). 0 < length l) (read_some s (message n to b) e).1 (omega arith)

module _ (m : Memory) (k : State) (h : Host) (C : Core m k h) (a : Address) (n : ℕ) (b : Body) where
  waiting_is : waiting_for (hearing a n b h) (with_address a h.peers) ≡ waiting_for h h.peers
  waiting_is = go (among a h.peers) refl
    where
      go : (t : Bool) → among a h.peers ≡ t → waiting_for (hearing a n b h) (cond t h.peers (h.peers ++ (a ∷ []))) ≡ waiting_for h h.peers
      go true e = waiting_same h a n b h.peers
      go false e =
          waiting_more h a n b
          (C.says.strange_waiting a
          (among_strange C.N k.peers a (subst (λ (l : List Address). among a l ≡ false) (sym C.says.peers_are) e)))
          h.peers

  module _ (name_lens names counts room room' : List ℕ) (k' : State) where
    -- the needs of a body look at nothing that has changed
    needs_kept : (l : Letter) (c : Body) → Needs (limits_of m k room) h l c
        → Needs (limits_of (addressed m name_lens names counts) k' room') (hearing a n b h) l c
    needs_kept l (get x) N = omega (arith, N, waiting_is)
    needs_kept l (set x v) N = λ e. omega (arith, N e, waiting_is)
    needs_kept l (reply x v) N = tt
    needs_kept l (redirect x c) N = tt
    needs_kept l (shard lo hi c) N = λ e. (omega (arith, (N e).0, waiting_is), (N e).1)
    needs_kept l (delegate lo hi es) N = N

    module _ (C' : Core (addressed m name_lens names counts) k' (hearing a n b h)) (s : List ℕ) (R : InRoom name_lens names k' room' s a) where
      -- memory keeps the host with the letter in its room
      pub keeps_letter : read s ≡ some (message n h.me b) → Needs (limits_of m k room) h (record { from = a; number = n; body = b }) b
          → Keeps (addressed m name_lens names counts) k' room' (hearing a n b h)
      keeps_letter e N = record {
        core = C';
        room_is = (
          omega (arith, R.long, some_bytes s n h.me b e),
          R.fits,
          R.from_in,
          R.from_is,
          ap read R.bytes ∙ e,
          needs_kept (record { from = a; number = n; body = b }) b N,
        );
      }

      -- the sender has a place now, so there was one for him
      module _ (Q : Kept k k') (lens-long : length name_lens ≡ length m.name_lens) (names-long : length names ≡ length m.names)
          (counts-long : length counts ≡ length m.counts) (room-long : length room' ≡ length room) where
        known : Known (limits_of m k room) h a
        known e =
            let joined : with_address a h.peers ≡ h.peers ++ (a ∷ []) = rw e refl in
            let more : k'.peers ≡ length h.peers + 1 =
            sym (length_firsts C'.N k'.peers) ∙ ap length (C'.says.peers_are ∙ joined) ∙ length-append h.peers (a ∷ []) in
            let is : a ≡ C'.N k'.from = sym R.from_is ∙ name_is (addressed m name_lens names counts) k' (hearing a n b h) C' k'.from R.from_in in
            let short = name_short (addressed m name_lens names counts) k' (hearing a n b h) C' k'.from R.from_in in
            let fits : k'.peers ≤ places m.name_lens m.names k.width =
            subst (λ (w : ℕ). k'.peers ≤ min (length m.name_lens) (length m.names / w)) Q.width
            (subst (λ (x : ℕ). k'.peers ≤ min (length m.name_lens) (x / k'.width)) names-long
            (subst (λ (x : ℕ). k'.peers ≤ min x (length names / k'.width)) lens-long (keeps_places C'.names_kept))) in
            (omega (arith, short, ap length is, Q.width), omega (arith, more, fits, C'.post_kept.fits_counts, counts-long))

        pub was_roomy : (x : ℕ) (c : Body) → Needs (limits_of m k room) h (record { from = a; number = x; body = c }) c
            → Roomy (limits_of m k room) h (record { from = a; number = x; body = c }) s
        was_roomy x c N = record { bytes = omega (arith, R.long, R.fits, room-long); sender = known; needs = N }
