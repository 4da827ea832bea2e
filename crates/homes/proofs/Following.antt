-- Each call is followed by one event of the world, or by none if it was refused.
-- Assumes nothing.
use mathlib.Core.Path.{◌≡◌, refl, sym, ap, ap₂, ◌∙◌, subst}
use mathlib.Core.Bool.{Bool, true, false, cond}
use mathlib.Core.List.{List, [], ◌∷◌, ◌++◌, append-nil}
use mathlib.Core.Logic.{⊎_elim}
use mathlib.Core.Option.{Option, none, some}
use Prim.Native.Nat.{ℕ, zero, suc, ◌≤◌, ◌<◌}
use native.Mathlib.Omega.{arith}
use lib.ListN.{length, take}
use Rattle.columns.proofs.Cases.{lt_or_ge}
use Rattle.message.specs.Message.{Address}
use Rattle.delivery.specs.Memory.{capacity}
use Rattle.decoding.specs.Decode.{same}
use Rattle.protocol.specs.Address.{among, at}
use Rattle.protocol.specs.State.{Host}
use Rattle.protocol.specs.Delivery.{Packet, Step}
use Rattle.protocol.specs.Receive.{receive}
use Rattle.protocol.specs.Process.{process}
use Rattle.protocol.specs.Retransmit.{retransmit}
use Rattle.protocol.specs.Turn.{turn}
use Rattle.hosts.specs.declared.State.{State}
use Rattle.hosts.specs.Memory.{Memory, memory}
use Rattle.hosts.specs.Limits.{fits_room}
use Rattle.hosts.specs.Answers.{sends_of as processedSends}
use Rattle.hosts.specs.Keeps.{Keeps}
use Rattle.incoming.specs.declared.Received.TheVariants.{Unfit}
use Rattle.incoming.specs.Answers.{ack_length, sends_of as receivedSends, keeps_all}
use Rattle.limits.specs.declared.NoRoom.{NoRoom}
use Rattle.std.specs.Prelude.{Result, Ok, Err}
use Rattle.repeating.specs.Answers.{AfterRepeat}
use Rattle.rounds.specs.Answers.{sends_of as turnedSends}
use Rattle.arriving.specs.Answers.{arriving}
use Rattle.turning.specs.Answers.{Lent}
use Rattle.world.specs.World.{Sent, World}
use Rattle.world.specs.Events.{Source, Move, receiving, processing, retransmitting, turning, Event, arrival, optional, sent_by, on_arrival, step_of, after, step, run}
use Rattle.world.proofs.Changes.{at_same_state}
use Rattle.homes.specs.Homes.{Home, Homes, Receives, Processes, Repeats, repeated_sends, Arrived, Turns, Call, ReceivesMaybe, Calls, Does}
use Rattle.homes.specs.Homes.{receive as receives, process as processes, retransmit as retransmits, turn as turns}
use Rattle.homes.specs.Theorem.{Kept, Follows}

-- ---- one event

module _ {hosts : List Address} {R R' : Homes} {W : World} (F : Follows hosts R W) (x : Address) (isHost : among x hosts ≡ true) (g : Home)
    (sends : List Packet) (n : ℕ) (homes_are : R'.home ≡ at x g R.home) (sent_is : R'.sent ≡ R.sent ++ sent_by x (take n sends)) where
  -- the world's host takes the step s, which the home has taken
  follows_after : (s : Step) → Kept g s.state → sends ≡ s.sends → Follows hosts R' (after W x n s)
  follows_after s K e = record {
    hosts_are = F.hosts_are;
    keeps = λ y h.
        subst (λ (f : Address → Home). Kept (f y) (at x s.state W.state y)) (sym homes_are)
        (both (same y x) (λ q. K) (F.keeps y h));
    sent_is = sent_is ∙ ap₂ (λ (l m : List Sent). l ++ m) F.sent_is (ap (λ (p : List Packet). sent_by x (take n p)) e);
  }
    where
      both : {y : Address} (t : Bool) → (t ≡ true → Kept g s.state) → Kept (R.home y) (W.state y) → Kept (cond t g (R.home y)) (cond t s.state (W.state y))
      both true p q = p refl
      both false p q = q

  follows_event : (m : Move) (s : Step) → step_of W x m ≡ s → Kept g s.state → sends ≡ s.sends
      → Follows hosts R' (step W (record { host = x; move = m; out = n }))
  follows_event m s e K q =
      let h : among x W.hosts ≡ true = ap (among x) F.hosts_are ∙ isHost in
      subst (λ (t : Bool). Follows hosts R' (cond t (after W x n (step_of W x m)) W)) (sym h)
      (subst (λ (z : Step). Follows hosts R' (after W x n z)) (sym e) (follows_after s K q))

  -- nothing was done
  follows_none : g ≡ R.home x → sends ≡ [] → Follows hosts R' W
  follows_none e q = record {
    hosts_are = F.hosts_are;
    keeps = λ y h. subst (λ (f : Address → Home). Kept (f y) (W.state y)) (sym (homes_are ∙ ap (λ (z : Home). at x z R.home) e ∙ at_same_state x R.home)) (F.keeps y h);
    sent_is = sent_is ∙ ap (λ (p : List Packet). R.sent ++ sent_by x (take n p)) q ∙ ap (λ (l : List Sent). R.sent ++ l) (none_sent n) ∙ append-nil R.sent ∙ F.sent_is;
  }
    where
      none_sent : (k : ℕ) → sent_by x (take k []) ≡ []
      none_sent zero = refl
      none_sent (suc k) = refl

  -- ---- the calls

  abbrev Ends : Type 0
  Ends = (l : List Event) × Follows hosts R' (run W l)

  one : (m : Move) (s : Step) → step_of W x m ≡ s → Kept g s.state → sends ≡ s.sends → Ends
  one m s e K q = (record { host = x; move = m; out = n } ∷ [], follows_event m s e K q)

  -- the same arrives in the world
  arrives : (p : Source) → arrival W.hosts W.sent x p ≡ arrival hosts R.sent x p
  arrives p = ap₂ (λ (l : List Address) (m : List Sent). arrival l m x p) F.hosts_are (sym F.sent_is)

  arrives_maybe : (p : Option Source) → optional W.hosts W.sent x p ≡ optional hosts R.sent x p
  arrives_maybe p = ap₂ (λ (l : List Address) (m : List Sent). optional l m x p) F.hosts_are (sym F.sent_is)

  same_home : (h h' : Home) → h'.memory ≡ h.memory → h'.numbers ≡ h.numbers → h'.room ≡ h.room → h' ≡ h
  same_home h h' a b c = λ i. record { memory = a i; numbers = b i; room = c i }

  numbers_as : {m : Memory} {k k' : State} {room : List ℕ} {h : Host} → k' ≡ k → Keeps m k room h → Keeps m k' room h
  numbers_as {m} {k} {k'} {room} {h} e K = subst (λ (z : State). Keeps m z room h) (sym e) K

  follows_receive : (p : Source) (a : Address) (s : List ℕ) → arrival hosts R.sent x p ≡ some (a, s) → Receives (R.home x) a s g sends → Ends
  follows_receive p a s e C = ⊎_elim short long (lt_or_ge (length C.ack) ack_length)
    where
      short : length C.ack < ack_length → Ends
      short u =
          let unfit : C.answer.outcome ≡ Unfit = C.after.unfit u in
          let same = C.after.same (ap keeps_all unfit) in
          ([], follows_none (same_home (R.home x) g same.0 (C.numbers_are ∙ same.1) same.2) (C.sends_are ∙ ap (receivedSends a C.ack') unfit))

      long : ack_length ≤ length C.ack → Ends
      long u =
          let A = C.after.is (W.state x) (F.keeps x isHost) u in
          one (receiving p A.0) (receive A.0 (W.state x) a s) (ap (on_arrival A.0 (W.state x)) (arrives p ∙ e))
          (numbers_as C.numbers_are A.2.keeps) (C.sends_are ∙ A.2.sends)

  follows_arrival : (p : Source) (r : Option (Address × List ℕ)) → arrival hosts R.sent x p ≡ r → ReceivesMaybe (R.home x) r g sends → Ends
  follows_arrival p none e C = ([], follows_none C.0 C.1)
  follows_arrival p (some q) e C = follows_receive p q.0 q.1 e C

  follows_process : Processes (R.home x) g sends → Ends
  follows_process C =
      let A = C.after.is (W.state x) (F.keeps x isHost) in
      let f = fits_room (length (R.home x).memory.slots) (W.state x) (W.state x).room in
      one (processing f) (process f (W.state x)) refl
      (numbers_as C.numbers_are (subst (λ (z : List ℕ). Keeps g.memory C.answer.state z (process f (W.state x)).state) (sym C.room_is) A.keeps))
      (C.sends_are ∙ ap (λ (k : State). processedSends g.memory k C.answer.outcome) C.numbers_are ∙ A.sends)

  follows_repeat : (r : Result ℕ NoRoom) (C : Repeats (R.home x) g sends) → C.answer ≡ r → Ends
  follows_repeat (Ok m) C e =
      let A : AfterRepeat (R.home x).memory.counts (R.home x).memory.places (R.home x).numbers C.out (Ok m) C.out' =
      subst (λ (z : Result ℕ NoRoom). AfterRepeat (R.home x).memory.counts (R.home x).memory.places (R.home x).numbers C.out z C.out') e C.after in
      let M = (R.home x).memory in
      one retransmitting (retransmit (W.state x)) refl (subst (λ (z : Home). Kept z (W.state x)) (sym C.home_is) (F.keeps x isHost))
      (C.sends_are ∙ ap (λ (z : Result ℕ NoRoom). repeated_sends (R.home x) z C.out') e
      ∙ A.is.1 M.lows M.owners M.keys M.slots M.lens M.values M.name_lens M.names M.mail (W.state x) (F.keeps x isHost).core)
  follows_repeat (Err f) C e = ([], follows_none C.home_is (C.sends_are ∙ ap (λ (z : Result ℕ NoRoom). repeated_sends (R.home x) z C.out') e))

  -- the turn's datagram is the one that arrives
  as_arrived : (p : Option (Address × List ℕ)) (arrived : Bool) (a : Address) (s : List ℕ) → Arrived p arrived a s → arriving arrived a s ≡ p
  as_arrived none arrived a s e = ap (λ (t : Bool). arriving t a s) e
  as_arrived (some p) arrived a s e = ap (λ (t : Bool). arriving t a s) e.0 ∙ ap₂ (λ (b : Address) (c : List ℕ). some (b, c)) e.1 e.2

  follows_turn : (p : Option Source) → Turns (R.home x) (optional hosts R.sent x p) g sends → Ends
  follows_turn p C =
      ⊎_elim
      (λ u. refused (λ l. let v = l.ack_fits in omega (arith, u, v)))
      (λ u.
      ⊎_elim (λ v. refused (λ l. let w = l.out_fits in omega (arith, v, w))) (λ v. taken (record { ack_fits = u; out_fits = v }))
      (lt_or_ge (length C.out) (capacity (R.home x).memory.places)))
      (lt_or_ge (length C.ack) ack_length)
    where
      refused : (Lent (R.home x).memory C.ack C.out → ⊥) → Ends
      refused n =
          let S = C.after.refused n in (
            [],
            follows_none (same_home (R.home x) g S.2 (C.numbers_are ∙ S.1) S.3)
                (C.sends_are ∙ ap (turnedSends g.memory g.numbers C.from C.ack' C.out') S.0),
          )

      taken : Lent (R.home x).memory C.ack C.out → Ends
      taken L =
          let A = C.after.is (W.state x) (F.keeps x isHost) L in
          let f = fits_room (length (R.home x).memory.slots) (W.state x) (W.state x).room in
          one (turning p A.0 f) (turn A.0 f (W.state x) (arriving C.arrived C.from C.datagram))
          (ap (turn A.0 f (W.state x)) (arrives_maybe p ∙ sym (as_arrived (optional hosts R.sent x p) C.arrived C.from C.datagram C.arrived_is)))
          (numbers_as C.numbers_are A.2.keeps)
          (C.sends_are ∙ ap (λ (k : State). turnedSends g.memory k C.from C.ack' C.out' C.answer.outcome) C.numbers_are ∙ A.2.sends)

  follows_call : (c : Call) → Does hosts R.sent x c (R.home x) g sends → Ends
  follows_call (receives p) C = follows_arrival p (arrival hosts R.sent x p) refl C
  follows_call processes C = follows_process C
  follows_call retransmits C = follows_repeat C.answer C refl
  follows_call (turns p) C = follows_turn p C

pub follows_one : {hosts : List Address} {R R' : Homes} {W : World} → Follows hosts R W → Calls hosts R R' → (l : List Event) × Follows hosts R' (run W l)
follows_one F C = follows_call F C.host C.is_host C.after C.sends C.out C.homes_are C.sent_is C.call C.does
