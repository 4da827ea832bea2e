-- A test and what it tells.
-- Assumes nothing.
use mathlib.Core.Bool.{true, false, true≢false, false≢true}
use Rattle.serving.specs.Answers.{Tells}

pub passed : {A : Type 0} → A → Tells A true
passed a = record { yes = λ e. a; no = λ e. absurd (true≢false e) }

pub failed : {A : Type 0} → (A → ⊥) → Tells A false
failed f = record { yes = λ e. absurd (false≢true e); no = λ e. f }
