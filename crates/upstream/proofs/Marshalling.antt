-- Every format here has the laws of upstream's trait, and reading keeps its promises; also those that upstream does not make.
-- Assumes nothing.
use mathlib.Core.Path.{◌≡◌, refl, sym, ap, ◌∙◌, subst}
use mathlib.Core.Bool.{false≢true}
use mathlib.Core.List.{List, [], ◌∷◌, ◌++◌}
use Prim.Native.Nat.{ℕ, zero, suc, ◌-◌}
use native.Mathlib.Omega.{arith}
use lib.ListN.{length, take, drop, take-append-drop}
use Rattle.format.specs.Format.{Format, Of, encode, Good}
use Rattle.format.specs.Place.{Stands}
use Rattle.format.proofs.Clear.{no_prefix, injective}
use Rattle.message.specs.Message.{Datagram, message, ack}
use Rattle.message.specs.Table.{datagram, datagram_value, written, Valid}
use Rattle.message.specs.View.{bytes_of, body_of}
use Rattle.message.specs.Answers.{AfterParse}
use Rattle.message.specs.declared.Parsed.{Parsed}
use Rattle.message.specs.declared.Parsed.TheVariants.{Message, Ack}
use Rattle.std.specs.Prelude.{Option, Some, None}
use Rattle.message.proofs.Laws.{one_message, no_message_begins}
use Rattle.decoding.specs.Decode.{good}
use Rattle.decoding.proofs.Decided.{good_true, good_of}
use Rattle.upstream.specs.Marshalling.{Marshalable, Deserialized, Demarshalled}

-- of every format
pub format_marshalable : (f : Format) → Marshalable (Of f) (Good f) (encode f) (λ x y. x ≡ y)
format_marshalable f = record {
  decided = λ x. (good f x, good_true f x, λ e g. false≢true (sym e ∙ good_of f x g));
  symmetric = λ x y e. sym e;
  no_prefix = λ x y g w n l e.
      n (no_prefix f x y g w (drop (length (encode f x)) (encode f y))
      (ap (λ (s : List ℕ). s ++ drop (length (encode f x)) (encode f y)) e ∙ take-append-drop (length (encode f x)) (encode f y))).0;
  same_is = λ x y e. ((λ g. subst (Good f) e g), (λ g. subst (Good f) (sym e) g));
  same_bytes = λ x y e. ap (encode f) e;
  injective = λ x y g w e. injective f x y g w e;
}

-- and of whole datagrams
pub datagram_marshalable : Marshalable Datagram Valid written (λ x y. x ≡ y)
datagram_marshalable = record {
  decided = λ x. (good datagram (datagram_value x), good_true datagram (datagram_value x), λ e g. false≢true (sym e ∙ good_of datagram (datagram_value x) g));
  symmetric = λ x y e. sym e;
  no_prefix = λ x y g w n l e.
      n (no_message_begins x y g w (drop (length (written x)) (written y))
      (ap (λ (s : List ℕ). s ++ drop (length (written x)) (written y)) e ∙ take-append-drop (length (written x)) (written y))).0;
  same_is = λ x y e. ((λ g. subst Valid e g), (λ g. subst Valid (sym e) g));
  same_bytes = λ x y e. ap written e;
  injective = λ x y g w e. one_message x y g w e;
}

-- the message that an answer names
abbrev pub Names : List ℕ → Option Parsed → Datagram → Type 0
Names s (Some (Message n a b)) d = message n (bytes_of s a) (body_of s b) ≡ d
Names s (Some (Ack n)) d = ack n ≡ d
Names s None d = ⊥

-- a message that `parsing::parse` answers is what upstream promises of one that is not Invalid
pub parse_demarshals : (s : List ℕ) (r : Option Parsed) → AfterParse s r → (d : Datagram) → Names s r d → Demarshalled s d
parse_demarshals s (Some (Message n a b)) A d e =
    subst (λ (z : Datagram). Demarshalled s z) e
    (record { is = A.is.0; there = sym A.is.1; only = λ m v q. one_message m (message n (bytes_of s a) (body_of s b)) v A.is.0 (sym q ∙ sym A.is.1) })
parse_demarshals s (Some (Ack n)) A d e =
    subst (λ (z : Datagram). Demarshalled s z) e (record { is = A.is.0; there = sym A.is.1; only = λ m v q. one_message m (ack n) v A.is.0 (sym q ∙ sym A.is.1) })
parse_demarshals s None A d e = absurd e

-- .. and None is answered only for bytes that are no message, which upstream does not promise of Invalid
pub parse_refuses : (s : List ℕ) → AfterParse s None → (d : Datagram) → Valid d → s ≡ written d → ⊥
parse_refuses s A d v e = A.is d v (sym e)

-- ---- a part that was read

-- the front of two lists joined
front_of : (a b : List ℕ) (n : ℕ) → n ≡ length a → take n (a ++ b) ≡ a
front_of [] b zero e = refl
front_of [] b (suc n) e = absurd (omega (arith, e))
front_of (x ∷ a) b zero e = absurd (omega (arith, e))
front_of (x ∷ a) b (suc n) e = ap (λ (l : List ℕ). x ∷ l) (front_of a b n (omega (arith, e)))

-- what a reader of a part answers is what upstream promises of deserialize
pub stands_deserializes : (f : Format) (s : List ℕ) (at : ℕ) (v : Of f) (next : ℕ) → Stands f s at v next → Deserialized (Of f) (Good f) (encode f) s at v next
stands_deserializes f s at v next S =
    let l = S.long in record {
      is = S.good;
      order = omega (arith, l);
      within = S.within;
      there = ap (take (next - at)) S.is ∙ front_of (encode f v) (drop next s) (next - at) (omega (arith, l));
    }
