-- What the readers of bodies answer: a body stands at the place and the view describes it, or none is written there.
-- Assumes nothing.
use Rattle.std.specs.Prelude.{◌≡◌, List, ℕ, Option, Some, None}
use Rattle.format.specs.Format.{Of}
use Rattle.format.specs.Place.{Stands, Lacks}
use Rattle.message.specs.Table.{fields, body, body_value}
use Rattle.message.specs.View.{body_of, BodyIn}
use Rattle.message.specs.declared.BodyView.{BodyView}

-- the fields of the body with the byte t, behind that byte
abbrev pub FieldsCases : ℕ → List ℕ → ℕ → Option (BodyView × ℕ) → Type 0
FieldsCases t s at (Some (b, next)) =
    (v : Of (fields t)) × (body_value (body_of s b) ≡ (t, v)) × Stands (fields t) s at v next × BodyIn s b
FieldsCases t s at None = Lacks (fields t) s at

pub record ReadFields (t : ℕ) (s : List ℕ) (at : ℕ) (r : Option (BodyView × ℕ)) : Type 0 where
  pub is : FieldsCases t s at r

abbrev pub BodyCases : List ℕ → ℕ → Option (BodyView × ℕ) → Type 0
BodyCases s at (Some (b, next)) = Stands body s at (body_value (body_of s b)) next × BodyIn s b
BodyCases s at None = Lacks body s at

pub record ReadBody (s : List ℕ) (at : ℕ) (r : Option (BodyView × ℕ)) : Type 0 where
  pub is : BodyCases s at r
