-- The step of the message in the room is the definition's, if its row is.
-- Assumes nothing.
use mathlib.Core.Path.{◌≡◌, refl, sym, ap, ◌∙◌, subst}
use mathlib.Core.Logic.{inl, inr}
use mathlib.Core.List.{List}
use Rattle.std.specs.Prelude.{Some, None}
use mathlib.Core.Option.{Option as Maybe, none, some, none-ne-some}
use Prim.Native.Nat.{ℕ, ◌<◌}
use native.Mathlib.Omega.{arith}
use lib.ListN.{length, take}
use Rattle.format.specs.declared.Part.{Part}
use Rattle.message.specs.declared.Parsed.TheVariants.{Message, Ack}
use Rattle.message.specs.declared.BodyView.{BodyView}
use Rattle.message.specs.View.{body_of}
use Rattle.message.specs.Answers.{AfterParse}
use Rattle.decoding.proofs.Laws.{parse_reads}
use Rattle.protocol.specs.State.{Host, Letter}
use Rattle.protocol.specs.Delivery.{Step}
use Rattle.protocol.specs.Process.{on_letter, process}
use Rattle.hosts.specs.declared.State.{State}
use Rattle.hosts.specs.declared.Done.{Done}
use Rattle.hosts.specs.declared.Processed.TheVariants.{Idle}
use Rattle.hosts.specs.Memory.{Memory}
use Rattle.hosts.specs.Limits.{fits_room}
use Rattle.hosts.specs.Keeps.{Core, RoomCases, Keeps}
use Rattle.hosts.specs.Answers.{Heard}
use Rattle.staying.specs.Answers.{unchanged}
use Rattle.rows.specs.Answers.{step_for, Leaves, AfterBody}
use Rattle.processing.specs.Answers.{Processes, AfterProcess}

-- what a kept room says of the datagram in it
in_room : (m : Memory) (k : State) (room : List ℕ) → 0 < k.len → (h : Host) → Keeps m k room h → (l : Letter) × (h.room ≡ some l) × RoomCases m k room h (some l)
in_room m k room z h K = go h.room refl K.room_is
  where
    go : (o : Maybe Letter) → h.room ≡ o → RoomCases m k room h o → (l : Letter) × (h.room ≡ some l) × RoomCases m k room h (some l)
    go none e R = absurd (omega (arith, z, R))
    go (some l) e R = (l, e, R)

module _ {m : Memory} {k : State} {room : List ℕ} {r : Done} where
  -- there is none
  pub nothing : k.len ≡ 0 → r ≡ unchanged k Idle → AfterProcess m k room r m
  nothing z q = rw q (record { is = λ h K. go h K h.room refl K.room_is; same = λ h K e. (refl, refl) })
    where
      go : (h : Host) → Keeps m k room h → (o : Maybe Letter) → h.room ≡ o → RoomCases m k room h o
          → Processes m k room Idle (on_letter (fits_room (length m.slots) h h.room) h h.room)
      go h K none e R = subst (λ (o : Maybe Letter). Processes m k room Idle (on_letter (fits_room (length m.slots) h o) h o)) (sym e) (record { keeps = K; outcome = refl; sends = refl })
      go h K (some l) e R = absurd (omega (arith, z, R.0))

  -- memory keeps nothing where the room has no message
  absent : ((h : Host) → Keeps m k room h → ⊥) → r ≡ unchanged k Idle → AfterProcess m k room r m
  absent n q = rw q (record { is = λ h K. absurd (n h K); same = λ h K e. absurd (n h K) })

  pub too_long : 0 < k.len → length room < k.len → r ≡ unchanged k Idle → AfterProcess m k room r m
  too_long z n q = absent (λ h K. let R = in_room m k room z h K in omega (arith, n, R.2.1)) q

  -- bytes that are an Ack or no message are in no room
  pub is_ack : 0 < k.len → {n : ℕ} → AfterParse (take k.len room) (Some (Ack n)) → r ≡ unchanged k Idle → AfterProcess m k room r m
  is_ack z {n} A q =
      absent (λ h K.
      let e = parse_reads (take k.len room) (Some (Ack n)) A in
      let f = (in_room m k room z h K).2.4 in
      cc) q

  pub is_none : 0 < k.len → AfterParse (take k.len room) None → r ≡ unchanged k Idle → AfterProcess m k room r m
  is_none z A q =
      absent (λ h K.
      let e = parse_reads (take k.len room) None A in
      let f = (in_room m k room z h K).2.4 in
      cc) q

-- a message that stands in the room
module _ (m m' : Memory) (k : State) (room : List ℕ) (n : ℕ) (a : Part) (b : BodyView) (r : Done) (z : 0 < k.len)
    (A : AfterParse (take k.len room) (Some (Message n a b))) (B : AfterBody m k (take k.len room) b r m') where
  -- the letter is the message that was read
  body_is : (h : Host) (l : Letter) → RoomCases m k room h (some l) → body_of (take k.len room) b ≡ l.body
  body_is h l R = let e = parse_reads (take k.len room) (Some (Message n a b)) A in let f = R.4 in cc

  step_is : (h : Host) (l : Letter) → h.room ≡ some l → RoomCases m k room h (some l)
      → step_for m (take k.len room) b h l ≡ process (fits_room (length m.slots) h h.room) h
  step_is h l e R = rw (body_is h l R, e) refl

  -- the room after the step
  room_after : (h : Host) (K : Keeps m k room h) (t : Step) → Leaves m m' k r.state h t → Core m' r.state t.state → Keeps m' r.state room t.state
  room_after h K t (inl (p, q, u)) C = record { core = C; room_is = rw (p, q, u) K.room_is }
  room_after h K t (inr (p, q)) C = record { core = C; room_is = rw p q }

  letter : AfterProcess m k room r m'
  letter = record {
    is = λ h K.
        let R = in_room m k room z h K in
        let l = R.0 in
        let c = R.2 in
        let H : Heard m k l = record { from_in = c.2; from_is = c.3 } in
        let N = rw (← body_is h l c) at c.5 in
        let D = B.is room h l K.core H A.is.3 N in
        let P : Processes m' r.state room r.outcome (step_for m (take k.len room) b h l) = record {
          keeps = room_after h K (step_for m (take k.len room) b h l) (B.leaves h l K.core) D.core;
          outcome = D.outcome;
          sends = D.sends;
        } in
        rw (← step_is h l R.1 c) P;
    same = λ h K e.
        let R = in_room m k room z h K in
        let l = R.0 in
        kept h l R.1 (step_for m (take k.len room) b h l) (ap (λ (t : Step). t.state) (step_is h l R.1 R.2) ∙ e) (B.leaves h l K.core);
  }
    where
      kept : (h : Host) (l : Letter) → h.room ≡ some l → (t : Step) → t.state ≡ h → Leaves m m' k r.state h t → (m' ≡ m) × (r.state ≡ k)
      kept h l e t q (inl (p, u, w)) = (u, w)
      kept h l e t q (inr (p, u)) = absurd (none-ne-some l (sym p ∙ ap (λ (g : Host). g.room) q ∙ e))

pub letters : {m m' : Memory} {k : State} {room : List ℕ} {n : ℕ} {a : Part} {b : BodyView} {r : Done} → 0 < k.len
    → AfterParse (take k.len room) (Some (Message n a b)) → AfterBody m k (take k.len room) b r m' → AfterProcess m k room r m'
letters {m} {m'} {k} {room} {n} {a} {b} {r} z A B = letter m m' k room n a b r z A B
