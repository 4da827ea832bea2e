-- The answers to a message that is not taken: it is for another host, was taken before, or is from the future. The next one from its sender is
-- passed on.
-- Assumes nothing.
use mathlib.Core.Path.{◌≡◌, refl, ◌∙◌}
use mathlib.Core.Bool.{true, false}
use mathlib.Core.List.{List}
use Rattle.std.specs.Prelude.{Result, Some}
use mathlib.Core.Option.{some}
use Prim.Native.Nat.{ℕ, suc}
use native.Mathlib.Omega.{arith}
use borrow.Author.Tests.{le-leb, lt-leb, ne_eqb}
use Rattle.format.specs.declared.Part.{Part}
use Rattle.message.specs.Message.{Address, message, ack}
use Rattle.message.specs.View.{bytes_of, body_of}
use Rattle.message.specs.Answers.{AfterParse, AfterWrite}
use Rattle.message.specs.declared.BodyView.{BodyView}
use Rattle.message.specs.declared.Parsed.TheVariants.{Message}
use Rattle.message.specs.declared.Refused.{Refused}
use Rattle.decoding.specs.Decode.{read}
use Rattle.decoding.proofs.Laws.{parse_reads}
use Rattle.protocol.specs.State.{Host}
use Rattle.protocol.specs.Receive.{receive}
use Rattle.hosts.specs.declared.State.{State}
use Rattle.hosts.specs.Memory.{memory}
use Rattle.hosts.specs.Keeps.{Core}
use Rattle.protocol.proofs.Addresses.{same_false}
use Rattle.sorting.specs.declared.Kind.{Kind}
use Rattle.sorting.specs.declared.Kind.TheVariants.{Elsewhere, Again, Future, Next as Following}
use Rattle.sorting.specs.Answers.{Sorted, AfterSort}
use Rattle.incoming.specs.declared.Received.TheVariants.{Elsewhere as ForAnother, Again as TakenBefore, Future as TooEarly}
use Rattle.incoming.specs.declared.Arrival.{Arrival}
use Rattle.incoming.specs.Handled.{leaving, Handled, Next}
use Rattle.incoming.proofs.Laws.{not_unfit, ack_written, stays, step_read, step_number}

-- it is for this host
mine : (h : Host) {s : List ℕ} {n : ℕ} {to : Part} {b : BodyView} → bytes_of s to ≡ h.me → AfterParse s (Some (Message n to b))
    → read s ≡ some (message n h.me (body_of s b))
mine h {s} {n} {to} {b} e A = rw (← e) (parse_reads s (Some (Message n to b)) A)

-- what was said of the message
said : {lows owners keys slots lens values name_lens names counts places mail : List ℕ} {k : State} {a : Address} {s : List ℕ} {n : ℕ} {to : Part} {b : BodyView}
    {x : Kind} → AfterSort name_lens names counts k a s n to x → (h : Host)
    → Core (memory lows owners keys slots lens values name_lens names counts places mail) k h → AfterParse s (Some (Message n to b))
    → Sorted x h a (bytes_of s to) n
said {lows} {owners} {keys} {slots} {lens} {values} {places = places} {mail = mail} S h C A = S.is lows owners keys slots lens values places mail h C A.is.2

module _ {lows owners keys slots name_lens names counts places : List ℕ} {k : State} {room : List ℕ} {a : Address} {s d : List ℕ} {n : ℕ} {to : Part}
    {b : BodyView} where
  pub elsewhere : AfterSort name_lens names counts k a s n to Elsewhere → (lens values mail : List ℕ)
      → Handled (λ h. AfterParse s (Some (Message n to b))) (memory lows owners keys slots lens values name_lens names counts places mail) k room a s d
      (leaving k ForAnother)
      (memory lows owners keys slots lens values name_lens names counts places mail)
      room
      d
  elsewhere S lens values mail = record {
    is = λ h A K e q.
        let r = parse_reads s (Some (Message n to b)) A in
        let f : bytes_of s to ≡ h.me → ⊥ = said S h K.core A in (
          false,
          λ x c z g y. absurd (f (cc)),
          stays a d K ForAnother refl (receive false h a s)
              (step_read h a s e false (some (message n (bytes_of s to) (body_of s b))) r ∙ rw (same_false (bytes_of s to) h.me f) refl),
        );
    same = λ e. (refl, refl, refl);
    fit = not_unfit ForAnother tt;
  }

  pub again : AfterSort name_lens names counts k a s n to Again → {w : Result ℕ Refused} {d' : List ℕ} → AfterWrite (ack n) d w d' → (lens values mail : List ℕ)
      → Handled (λ h. AfterParse s (Some (Message n to b))) (memory lows owners keys slots lens values name_lens names counts places mail) k room a s d
      (leaving k TakenBefore)
      (memory lows owners keys slots lens values name_lens names counts places mail)
      room
      d'
  again S {w} {d'} W lens values mail = record {
    is = λ h A K e q.
        let t = said S h K.core A in
        let r = mine h t.0 A in (
          false,
          λ x c z g y. let u : n ≡ x = cc in absurd (omega (arith, t.1, u, y)),
          rw (step_number h a s e false n (body_of s b) r false true (ne_eqb n (suc (h.received a)) (λ u. omega (arith, t.1, u))) (le-leb n (h.received a) t.1))
              (record { keeps = K; outcome = refl; sends = rw (ack_written n d w d' W A.is.0.1.0 q) refl }),
        );
    same = λ e. (refl, refl, refl);
    fit = not_unfit TakenBefore tt;
  }

  pub future : AfterSort name_lens names counts k a s n to Future → (lens values mail : List ℕ)
      → Handled (λ h. AfterParse s (Some (Message n to b))) (memory lows owners keys slots lens values name_lens names counts places mail) k room a s d
      (leaving k TooEarly)
      (memory lows owners keys slots lens values name_lens names counts places mail)
      room
      d
  future S lens values mail = record {
    is = λ h A K e q.
        let t = said S h K.core A in
        let r = mine h t.0 A in (
          false,
          λ x c z g y. let u : n ≡ x = cc in absurd (omega (arith, t.1, u, y)),
          stays a d K TooEarly refl (receive false h a s)
              (step_number h a s e false n (body_of s b) r false false (ne_eqb n (suc (h.received a)) (λ u. omega (arith, t.1, u))) (lt-leb n (h.received a) (omega (arith, t.1)))),
        );
    same = λ e. (refl, refl, refl);
    fit = not_unfit TooEarly tt;
  }

  -- the next from its sender
  pub passed_on : {i : ℕ} → AfterSort name_lens names counts k a s n to (Following i) → {r : Arrival} {nameLens' names' counts' room' d' : List ℕ} → ((lens values mail : List ℕ)
      → Handled (Next a s n b) (memory lows owners keys slots lens values name_lens names counts places mail) k room a s d r (memory lows owners keys slots lens values nameLens' names' counts' places mail) room' d')
      → (lens values mail : List ℕ)
      → Handled (λ h. AfterParse s (Some (Message n to b))) (memory lows owners keys slots lens values name_lens names counts places mail) k room a s d
      r
      (memory lows owners keys slots lens values nameLens' names' counts' places mail)
      room'
      d'
  passed_on S H lens values mail = record {
    is = λ h A K e q.
        let t = said S h K.core A in
        (H lens values mail).is h (record { is = mine h t.0 A; body_in = A.is.3; next = t.1 }) K e q;
    same = (H lens values mail).same;
    fit = (H lens values mail).fit;
  }
