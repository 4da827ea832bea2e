-- What the steps of starting a host answer.
-- Assumes nothing.
use Rattle.std.specs.Prelude.{◌≡◌, List, ℕ, ◌*◌, ◌≤◌, ◌<◌, length, get_or, Option, Some, None}
use Rattle.std.proofs.Math.Option.{none, some}
use Rattle.message.specs.Message.{Address}
use Rattle.strings.specs.Strings.{WellFormed}
use Rattle.distinct.specs.Distinct.{string}
use Rattle.protocol.specs.State.{start, fresh}
use Rattle.starting.specs.Answers.{addresses}

-- ---- the list of addresses

-- none of the first n lengths is larger
abbrev pub NoLonger : List ℕ → ℕ → ℕ → Type 0
NoLonger lens n most = (i : ℕ) → i < n → get_or lens i 0 ≤ most

-- the list is well formed, and no two addresses are equal
pub record Listed (ats lens bytes : List ℕ) (n : ℕ) : Type 0 where
  pub formed : WellFormed ats lens n (length bytes)
  pub distinct : (i j : ℕ) → i < n → j < n → string ats lens bytes i ≡ string ats lens bytes j → i ≡ j

-- r is the first place of the name on the list, or it is not there
abbrev pub PlaceCases : Option ℕ → (ats lens bytes : List ℕ) → ℕ → Address → Type 0
PlaceCases (Some p) ats lens bytes n name =
    (p < n) × (string ats lens bytes p ≡ name) × ((i : ℕ) → i < p → string ats lens bytes i ≡ name → ⊥)
PlaceCases None ats lens bytes n name = (i : ℕ) → i < n → string ats lens bytes i ≡ name → ⊥

pub record Place (ats lens bytes : List ℕ) (n : ℕ) (name : Address) (r : Option ℕ) : Type 0 where
  pub is : PlaceCases r ats lens bytes n name

-- a host with the address `me`, at place r, starts with the list
pub record Starts (ats lens bytes : List ℕ) (n : ℕ) (me : Address) (r : ℕ) : Type 0 where
  pub listed : Listed ats lens bytes n
  pub me_is : string ats lens bytes r ≡ me
  pub host : start (addresses ats lens bytes n) me ≡ some (fresh (string ats lens bytes 0) (addresses ats lens bytes n) me)

-- r is the place of the own address on a list with which a host starts, or none starts
abbrev pub OwnCases : Option ℕ → (ats lens bytes : List ℕ) → ℕ → Address → Type 0
OwnCases (Some p) ats lens bytes n me = (p < n) × Starts ats lens bytes n me p
OwnCases None ats lens bytes n me = WellFormed ats lens n (length bytes) → start (addresses ats lens bytes n) me ≡ none

pub record Own (ats lens bytes : List ℕ) (n : ℕ) (me : Address) (r : Option ℕ) : Type 0 where
  pub is : OwnCases r ats lens bytes n me

-- ---- writing

-- a list whose addresses fit so many lengths and bytes
pub record Enlists (lens names width : ℕ) (ats addressLens bytes : List ℕ) (n : ℕ) : Type 0 where
  pub listed : Listed ats addressLens bytes n
  pub wide : 0 < width
  pub fits_lens : n ≤ lens
  pub fits_names : n * width ≤ names
  pub short : NoLonger addressLens n width
