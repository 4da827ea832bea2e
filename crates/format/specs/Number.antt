-- Numbers as bytes, lowest byte first (document 01, section 3: "a number is 8 bytes").
-- Assumes nothing.
use Rattle.std.specs.Prelude.{List, [], ◌∷◌, ℕ, zero, suc, ◌+◌, ◌*◌, ◌/◌, ◌%◌, ◌^◌, get_or}
pub use Rattle.limits.specs.Limits.{numbers}

-- how many values a byte has
abbrev pub base : ℕ
base = 2 ^ 8

-- the bytes of a number
abbrev pub width : ℕ
width = 8

-- the lowest k bytes of n, lowest first
unfoldable pub digits : ℕ → ℕ → List ℕ
digits zero n = []
digits (suc k) n = n % base ∷ digits k (n / base)

-- the number whose k bytes stand in s from place `at` on
unfoldable pub worth : List ℕ → ℕ → ℕ → ℕ
worth s at zero = 0
worth s at (suc k) = get_or s at 0 + base * worth s (suc at) k
