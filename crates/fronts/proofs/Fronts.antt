-- The laws by which a message is written: the front, then the fields of its body.
-- Assumes nothing.
use mathlib.Core.Path.{◌≡◌, sym, ap, ◌∙◌, subst}
use mathlib.Core.Bool.{Bool}
use mathlib.Core.List.{List, [], ◌∷◌, ◌++◌, append_assoc}
use Prim.Native.Nat.{ℕ, ◌+◌, ◌≤◌, ◌<◌}
use native.Mathlib.Omega.{arith}
use lib.ListN.{length, length-append}
use Rattle.limits.specs.Limits.{bytes_max}
use Rattle.memory.specs.Bytes.{placed, Copied}
use Rattle.memory.proofs.Parts.{length_placed, placed_then}
use Rattle.format.specs.Number.{width, numbers, digits}
use Rattle.format.specs.Format.{Format, Of, counted, encode, Good}
use Rattle.format.proofs.Numbers.{length_digits}
use Rattle.format.proofs.Clear.{length_counted}
use Rattle.message.specs.Message.{Body, message}
use Rattle.message.specs.Table.{bodies, fields, body, body_value, written, Valid}
use Rattle.message.specs.Answers.{AfterWrite, WriteCases}
use Rattle.message.specs.declared.Refused.{Refused}
use Rattle.message.specs.declared.Refused.TheVariants.{NoRoom, Invalid}
use Rattle.std.specs.Prelude.{Result, Ok, Err}
use Rattle.fronts.specs.Front.{front, AfterStart, FieldsCases, AfterFields}

pub length_front : (n : ℕ) (to : List ℕ) (t : ℕ) → length (front n to t) ≡ 1 + width + width + length to + 1
length_front n to t =
    omega (
      arith,
      length-append ((0 ∷ digits width n) ++ counted to) (t ∷ []),
      length-append (0 ∷ digits width n) (counted to),
      length_digits width n,
      length_counted to,
    )

pub start_length : {n : ℕ} {to : List ℕ} {t more : ℕ} {d : List ℕ} {p : ℕ} {d₁ : List ℕ} → AfterStart n to t more d (Ok p) d₁ → length d₁ ≡ length d
start_length {n} {to} {t} {more} {d} {p} {d₁} A =
    ap length A.is.3 ∙ length_placed d 0 (front n to t) (omega (arith, A.is.0, A.is.2))

-- the fields behind the front make the whole message
module _ (f : Format) (v : Of f) (n : ℕ) (to : List ℕ) (t more : ℕ) (d : List ℕ) (long : more ≡ length (encode f v)) where
  whole : length (front n to t ++ encode f v) ≡ length (front n to t) + more
  whole = length-append (front n to t) (encode f v) ∙ ap (λ (k : ℕ). length (front n to t) + k) (sym long)

  pub fields_written : {p : ℕ} {r : Bool} {d₁ d₂ : List ℕ} → AfterStart n to t more d (Ok p) d₁ → Good f v → Copied (encode f v) d₁ p r d₂
      → AfterFields f v n to t d (Ok (p + more)) d₂
  fields_written {p} {r} {d₁} {d₂} A g c =
      let (e, short, fits, is) = A.is in
      let room : 0 + (length (front n to t) + length (encode f v)) ≤ length d = omega (arith, e, fits, long) in
      let l : length d₁ ≡ length d = start_length A in
      let from : p ≡ 0 + length (front n to t) = omega (arith, e) in
      let w = c.done (omega (arith, fits, long, l)) in
      record {
        is = (
          short,
          g,
          omega (arith, e, whole),
          w.1
              ∙ ap (λ (x : List ℕ). placed x p (encode f v)) is
              ∙ ap (λ (k : ℕ). placed (placed d 0 (front n to t)) k (encode f v)) from
              ∙ placed_then d 0 (front n to t) (encode f v) room,
        );
      }

  pub fields_refused : (e : Refused) {d' : List ℕ} → AfterStart n to t more d (Err e) d' → AfterFields f v n to t d (Err e) d'
  fields_refused NoRoom A = record { is = (A.is.0, omega (arith, A.is.1, whole)) }
  fields_refused Invalid A = record { is = (A.is.0, λ q g. omega (arith, A.is.1, q)) }

-- ---- .. as a message of the table

front_is : (n : ℕ) (to : List ℕ) (t : ℕ) (l : List ℕ) → front n to t ++ l ≡ 0 ∷ (digits width n ++ (counted to ++ (t ∷ l)))
front_is n to t l =
    append_assoc ((0 ∷ digits width n) ++ counted to) (t ∷ []) l
    ∙ append_assoc (0 ∷ digits width n) (counted to) (t ∷ l)

module _ (b : Body) (n : ℕ) (to : List ℕ) (t : ℕ) (v : Of (fields t)) (d : List ℕ) (known : n < numbers) (row : t < length bodies)
    (is : body_value b ≡ (t, v)) where
  bytes : front n to t ++ encode (fields t) v ≡ written (message n to b)
  bytes =
      front_is n to t (encode (fields t) v)
      ∙ ap (λ (x : Of body). 0 ∷ (digits width n ++ (counted to ++ encode body x))) (sym is)

  -- the length of a message, without writing it
  pub message_length : length (written (message n to b)) ≡ length (front n to t) + length (encode (fields t) v)
  message_length = ap length (sym bytes) ∙ length-append (front n to t) (encode (fields t) v)

  fine : length to < bytes_max → Good (fields t) v → Valid (message n to b)
  fine short g =
      let q : Good body (body_value b) = subst (λ (x : Of body). Good body x) (sym is) (row, g) in
      let s : length to < numbers = omega arith in
      (omega arith, (known, ((short, s), q)))

  sound : Valid (message n to b) → (length to < bytes_max) × Good (fields t) v
  sound g = (g.1.1.0.0, (subst (λ (x : Of body). Good body x) is g.1.1.1).1)

  pub message_written : {r : Result ℕ Refused} {d' : List ℕ} → AfterFields (fields t) v n to t d r d' → AfterWrite (message n to b) d r d'
  message_written {r} {d'} A = record { is = go r A.is }
    where
      go : (r : Result ℕ Refused) → FieldsCases (fields t) v n to t d r d' → WriteCases (message n to b) d r d'
      go (Ok k) (short, g, e, i) = (fine short g, e ∙ ap length bytes, i ∙ ap (placed d 0) bytes)
      go (Err NoRoom) (i, h) = (i, subst (λ (x : List ℕ). length d < length x) bytes h)
      go (Err Invalid) (i, never) = (i, λ g. never (sound g).0 (sound g).1)
