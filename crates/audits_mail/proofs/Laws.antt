-- What a datagram's bytes say of its number and destination, and what a place says of its datagram.
-- Assumes nothing.
use mathlib.Core.Path.{◌≡◌, refl, sym, ap, ◌∙◌}
use mathlib.Core.Bool.{Bool, false, false≢true}
use mathlib.Core.List.{List}
use Rattle.std.specs.Prelude.{Some, None}
use Prim.Native.Nat.{ℕ, suc, ◌+◌, ◌-◌, ◌*◌, ◌/◌, ◌<◌}
use native.Mathlib.Nat.{le-div_iff_mul-le}
use native.Mathlib.Omega.{arith}
use lib.ListN.{length, take, drop}
use Rattle.memory.specs.Bytes.{part, Same}
use Rattle.memory.proofs.Parts.{part_taken}
use Rattle.format.specs.declared.Part.{Part}
use Rattle.message.specs.Message.{Address, message, ack}
use Rattle.message.specs.View.{bytes_of, body_of}
use Rattle.message.specs.Answers.{AfterParse}
use Rattle.message.specs.declared.BodyView.{BodyView}
use Rattle.message.specs.declared.Parsed.TheVariants.{Message, Ack}
use Rattle.message.proofs.Laws.{one_message}
use Rattle.peers.specs.Names.{Keeps as KeepsNames, AfterName}
use Rattle.delivery.specs.Post.{Post}
use Rattle.delivery.specs.Memory.{Keeps as KeepsPost, capacity, mark_at, number_at, length_at}
use Rattle.audits_mail.specs.Answers.{MessageTo, Mailed, Valid}
use Rattle.audits_mail.specs.Inner.{Addressed, Fine}

-- ---- the bytes

module _ {s : List ℕ} {x : ℕ} {a : Address} where
  no_message : (MessageTo x a s → ⊥) → Addressed x a s false
  no_message h = record { yes = λ e. absurd (false≢true e); no = λ e. h }

  is_message : {n : ℕ} {p : Part} {b : BodyView} → AfterParse s (Some (Message n p b)) → (M : MessageTo x a s) → message n (bytes_of s p) (body_of s b) ≡ message x a M.0
  is_message A M = one_message _ _ A.is.0 M.1 (A.is.1 ∙ sym M.2)

  -- an Ack is no message, nor are bytes that are none
  pub not_ack : {n : ℕ} → AfterParse s (Some (Ack n)) → Addressed x a s false
  not_ack {n} A = no_message (λ M. let e = one_message (ack n) (message x a M.0) A.is.0 M.1 (A.is.1 ∙ sym M.2) in cc)

  pub not_any : AfterParse s None → Addressed x a s false
  not_any A = no_message (λ M. A.is (message x a M.0) M.1 M.2)

  pub other_number : {n : ℕ} {p : Part} {b : BodyView} → AfterParse s (Some (Message n p b)) → (n ≡ x → ⊥) → Addressed x a s false
  other_number A u = no_message (λ M. let e = is_message A M in u (cc))

  pub compared : {n : ℕ} {p : Part} {b : BodyView} {r : Bool} → AfterParse s (Some (Message n p b)) → n ≡ x
      → Same (take (p.at + p.len - p.at) (drop p.at s)) a r → Addressed x a s r
  compared {n} {p} {b} A e S =
      let t = part_taken s p.at p.len in
      record {
        yes = λ q. let w : bytes_of s p ≡ a = sym t ∙ S.yes q in rw (← e, ← w) (body_of s b, A.is.0, A.is.1);
        no = λ q M. let w = is_message A M in S.no q (t ∙ (cc));
      }

-- ---- a place

module _ {lens names places mail : List ℕ} {width size p : ℕ} where
  unfit : ((n : ℕ) (N : ℕ → Address) → KeepsNames lens names width n N → (counts : List ℕ) (P : Post) → KeepsPost counts places mail size n P → ⊥)
      → Fine lens names places mail width size p false
  unfit h = record { yes = λ e. absurd (false≢true e); no = λ e n N K counts P L d. h n N K counts P L }

  pub nameless : p < capacity places → (mark_at places p ≡ 0 → ⊥) → AfterName lens names width (mark_at places p - 1) None
      → Fine lens names places mail width size p false
  nameless b u A =
      unfit (λ n N K counts P L.
      let m : mark_at places p ≡ suc (mark_at places p - 1) = omega (arith, u) in
      A.is n N K (L.holding.only p (mark_at places p - 1) b m).0)

  pub read : {from to : ℕ} {t : Bool} → p < capacity places → (mark_at places p ≡ 0 → ⊥)
      → AfterName lens names width (mark_at places p - 1) (Some (from, to))
      → Addressed (number_at places p) (part names from (to - from)) (take (p * size + length_at places p - p * size) (drop (p * size) mail)) t
      → Fine lens names places mail width size p t
  read {from} {to} b u A D =
      let t = part_taken mail (p * size) (length_at places p) in
      record {
        yes = λ q n N K counts P L i m. rw (sym (named n N K (L.holding.only p i b m).0 (omega (arith, m))), ← t) (D.yes q);
        no = λ q n N K counts P L d.
            let i : ℕ = mark_at places p - 1 in
            let m : mark_at places p ≡ suc i = omega (arith, u) in
            D.no q (rw (named n N K (L.holding.only p i b m).0 refl, t) (d i m));
      }
    where
      named : (n : ℕ) (N : ℕ → Address) → KeepsNames lens names width n N → {i : ℕ} → i < n → mark_at places p - 1 ≡ i → part names from (to - from) ≡ N i
      named n N K {i} h j =
          A.is.2 n N K (omega (arith, h, j)) ∙ ap N j

-- ---- all places

module _ {lens names places mail : List ℕ} {width size : ℕ} where
  pub refuted : ((n : ℕ) (N : ℕ → Address) → KeepsNames lens names width n N → (counts : List ℕ) (P : Post) → KeepsPost counts places mail size n P
      → Mailed places mail size N → ⊥) → Valid lens names places mail width size false
  refuted h = record { yes = λ e. absurd (false≢true e); no = λ e. h }

  pub none_fits : size ≡ 0 → Valid lens names places mail width size false
  none_fits z = refuted (λ n N K counts P L M. omega (arith, z, L.wide))

  pub few_bytes : length mail / size < capacity places → Valid lens names places mail width size false
  few_bytes h = refuted (λ n N K counts P L M. omega (arith, h, (le-div_iff_mul-le L.wide).1 L.fits_mail))
