-- What a datagram in the room is, by what was read of it.
-- Assumes nothing.
use mathlib.Core.Path.{◌≡◌, refl, sym, ap, ◌∙◌, subst}
use mathlib.Core.Bool.{Bool, true, false, true≢false, false≢true}
use mathlib.Core.List.{List, []}
use Rattle.std.specs.Prelude.{Some, None}
use mathlib.Core.Option.{Option, none, some, some-injective, none-ne-some}
use Prim.Native.Nat.{ℕ, ◌+◌, ◌-◌, ◌≤◌, ◌<◌}
use native.Mathlib.Omega.{arith}
use lib.ListN.{length, take, drop}
use Rattle.memory.specs.Bytes.{part}
use Rattle.memory.proofs.Parts.{part_taken}
use Rattle.format.specs.declared.Part.{Part}
use Rattle.message.specs.Message.{Address, Body, get, Datagram, message, ack}
use Rattle.message.specs.View.{bytes_of, body_of}
use Rattle.message.specs.Answers.{AfterParse}
use Rattle.message.specs.declared.BodyView.{BodyView}
use Rattle.message.specs.declared.Parsed.TheVariants.{Message, Ack}
use Rattle.decoding.specs.Decode.{read}
use Rattle.decoding.proofs.Laws.{parse_reads}
use Rattle.peers.specs.Names.{AfterName}
use Rattle.protocol.specs.State.{Host, Letter}
use Rattle.hosts.specs.declared.State.{State}
use Rattle.hosts.specs.Memory.{Memory, memory, name_at}
use Rattle.hosts.specs.Limits.{Needs}
use Rattle.hosts.specs.Keeps.{Core, limits_of, RoomCases}
use Rattle.hearing.specs.Answers.{Own}
use Rattle.rooms.specs.Answers.{Tested}
use Rattle.audits_room.specs.Answers.{Valid}
use Rattle.audits_room.specs.Inner.{Is, Held}

-- ---- parts of a message

abbrev address_in : Datagram → Address
address_in (message x a b) = a
address_in (ack x) = []

abbrev body_in : Datagram → Body
body_in (message x a b) = b
body_in (ack x) = get 0

abbrev is_ack : Datagram → Bool
is_ack (message x a b) = false
is_ack (ack x) = true

-- the letter's destination is what was read, and so is its body
same_message : {s : List ℕ} {n : ℕ} {to : Part} {b : BodyView} → AfterParse s (Some (Message n to b)) → (h : Host) (l : Letter)
    → read s ≡ some (message l.number h.me l.body) → message n (bytes_of s to) (body_of s b) ≡ message l.number h.me l.body
same_message {s} {n} {to} {b} A h l e =
    some-injective (message n (bytes_of s to) (body_of s b)) (message l.number h.me l.body) (sym (parse_reads s (Some (Message n to b)) A) ∙ e)

-- ---- the datagram

module _ {lows owners keys slots name_lens names places : List ℕ} {k : State} {s : List ℕ} where
  no_letter : ((lens values counts mail room : List ℕ) (h : Host) (l : Letter)
      → Core (memory lows owners keys slots lens values name_lens names counts places mail) k h → k.from < k.peers
      → Is (memory lows owners keys slots lens values name_lens names counts places mail) k room h s l → ⊥)
      → Held lows owners keys slots name_lens names places k s false
  no_letter f = record { yes = λ e. absurd (false≢true e); no = λ e. f }

  pub nameless : AfterName name_lens names k.width k.from None → Held lows owners keys slots name_lens names places k s false
  nameless A = no_letter (λ lens values counts mail room h l C b I. A.is k.peers C.N C.names_kept b)

  -- an Ack is no letter, nor are bytes that are no message
  pub not_ack : {n : ℕ} → AfterParse s (Some (Ack n)) → Held lows owners keys slots name_lens names places k s false
  not_ack {n} A =
      no_letter (λ lens values counts mail room h l C b I.
      true≢false (ap is_ack (some-injective (ack n) (message l.number h.me l.body) (sym (parse_reads s (Some (Ack n)) A) ∙ I.letter))))

  pub not_any : AfterParse s None → Held lows owners keys slots name_lens names places k s false
  not_any A =
      no_letter (λ lens values counts mail room h l C b I.
      none-ne-some (message l.number h.me l.body) (sym (parse_reads s None A) ∙ I.letter))

  module _ {n : ℕ} {to : Part} {b : BodyView} (A : AfterParse s (Some (Message n to b))) where
    module _ {t : Bool} (O : Own name_lens names k (take (to.at + to.len - to.at) (drop to.at s)) t) where
      pub not_mine : t ≡ false → Held lows owners keys slots name_lens names places k s false
      not_mine f =
          no_letter (λ lens values counts mail room h l C q I.
          O.other f lows owners keys slots lens values counts places mail h C
          (part_taken s to.at to.len ∙ ap address_in (same_message A h l I.letter)))

      pub tested : t ≡ true → {x y : ℕ} → AfterName name_lens names k.width k.from (Some (x, y)) → {r : Bool}
          → Tested lows owners keys slots name_lens names places k (part names x (y - x)) s b r → Held lows owners keys slots name_lens names places k s r
      tested f {x} {y} N {r} T = record {
        yes = λ e. (
          record { from = name_at name_lens names k.width k.from; number = n; body = body_of s b },
          λ lens values counts mail room h C q.
              let mine : bytes_of s to ≡ h.me =
              sym (part_taken s to.at to.len) ∙ O.yes f lows owners keys slots lens values counts places mail h C in
              record {
                from = refl;
                letter = parse_reads s (Some (Message n to b)) A ∙ ap (λ (c : Address). some (message n c (body_of s b))) mine;
                needs = T.roomy e lens values counts mail room h
                    (record { from = name_at name_lens names k.width k.from; number = n; body = body_of s b }) C
                    (C.names_kept.is k.from q ∙ sym (N.is.2 k.peers C.N C.names_kept q))
                    A.is.3;
              },
        );
        no = λ e lens values counts mail room h l C q I.
            let m : Memory = memory lows owners keys slots lens values name_lens names counts places mail in
            let d : l.body ≡ body_of s b = sym (ap body_in (same_message A h l I.letter)) in
            T.lacks e lens values counts mail room h l C
            (sym I.from ∙ C.names_kept.is k.from q ∙ sym (N.is.2 k.peers C.N C.names_kept q))
            A.is.3
            (subst (λ (c : Body). Needs (limits_of m k room) h l c) d I.needs);
      }

-- ---- the room

module _ {m : Memory} {k : State} {room : List ℕ} where
  pub free : k.len ≡ 0 → Valid m k room true
  free z = record { yes = λ e. (none, λ h C. z); no = λ e. absurd (true≢false e) }

  -- a datagram that is there lies in the room and is a peer's
  unfit : 0 < k.len → (k.len ≤ length room → k.from < k.peers → ⊥) → Valid m k room false
  unfit p f = record { yes = λ e. absurd (false≢true e); no = λ e o h C R. go h o R }
    where
      go : (h : Host) (o : Option Letter) → RoomCases m k room h o → ⊥
      go h none z = omega (arith, p, z)
      go h (some l) R = f R.1 R.2

  pub too_long : 0 < k.len → length room < k.len → Valid m k room false
  too_long p h = unfit p (λ a b. omega arith)

  pub no_peer : 0 < k.len → k.peers ≤ k.from → Valid m k room false
  no_peer p h = unfit p (λ a b. omega arith)

pub letter_held : {lows owners keys slots name_lens names places : List ℕ} {k : State} {room : List ℕ} {r : Bool} → 0 < k.len → k.len ≤ length room
    → k.from < k.peers → Held lows owners keys slots name_lens names places k (take k.len room) r → (lens values counts mail : List ℕ)
    → Valid (memory lows owners keys slots lens values name_lens names counts places mail) k room r
letter_held {lows} {owners} {keys} {slots} {name_lens} {names} {places} {k} {room} {r} p l b H lens values counts mail = record {
  yes = λ e. let w = H.yes e in (some w.0, λ h C. let I = w.1 lens values counts mail room h C b in (p, l, b, I.from, I.letter, I.needs));
  no = λ e o h C R. go e h o C R;
}
  where
    go : r ≡ false → (h : Host) (o : Option Letter) → Core (memory lows owners keys slots lens values name_lens names counts places mail) k h
        → RoomCases (memory lows owners keys slots lens values name_lens names counts places mail) k room h o → ⊥
    go e h none C z = omega (arith, p, z)
    go e h (some x) C R =
        H.no e lens values counts mail room h x C b (record { from = R.3; letter = R.4; needs = R.5 })
