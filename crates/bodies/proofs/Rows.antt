-- How what is read of a body's fields leads to the body.
-- Assumes nothing.
use mathlib.Core.Path.{◌≡◌, sym, subst}
use mathlib.Core.List.{List}
use Rattle.std.specs.Prelude.{Option, Some, None}
use Prim.Native.Nat.{ℕ, ◌+◌, ◌<◌}
use lib.ListN.{length, get_or}
use Rattle.format.specs.Format.{Of}
use Rattle.format.specs.Place.{Stands}
use Rattle.format.proofs.Reading.{choice_found, choice_lacks}
use Rattle.message.specs.Table.{bodies, fields, body}
use Rattle.bodies.specs.Answers.{FieldsCases, BodyCases, ReadFields, ReadBody}
use Rattle.message.specs.declared.BodyView.{BodyView}

-- the fields that are read behind a body's byte are the body's
pub body_row : (t : ℕ) {s : List ℕ} {at : ℕ} (r : Option (BodyView × ℕ)) → at < length s → get_or s at 0 ≡ t → t < length bodies → ReadFields t s (at + 1) r
    → ReadBody s at r
body_row t {s} {at} r h e q A = record { is = go r A.is }
  where
    go : (r : Option (BodyView × ℕ)) → FieldsCases t s (at + 1) r → BodyCases s at r
    go (Some (b, next)) (v, p, k, i) =
        (subst (λ (x : Of body). Stands body s at x next) (sym p) (choice_found s at (length bodies) fields h e q k), i)
    go None k = choice_lacks s at (length bodies) fields t e k
