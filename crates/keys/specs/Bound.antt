-- What a bound, a range and their order are (document 01, section 1). A key is a number; the code's keys are those below 2 ^ 64,
-- and nothing here depends on that limit: end is a case of its own, never the largest key.
-- Assumes nothing.
use Rattle.std.specs.Prelude.{ℕ, Bool, true, false, not, cond, ◌&&◌, ltb}
use Rattle.keys.specs.declared.Bound.{Bound}
use Rattle.keys.specs.declared.Bound.TheVariants.{Key, End}
use Rattle.std.specs.declared.cmp.Ordering.{Ordering}
use Rattle.std.specs.declared.cmp.Ordering.TheVariants.{Less, Equal, Greater}

-- a lies below b: keys by their numbers, end above every key
abbrev pub below : Bound → Bound → Bool
below (Key a) (Key b) = ltb a b
below (Key a) End = true
below End b = false

-- the range [lo, hi) holds the key k: k does not lie below lo, and lies below hi. So it holds none unless lo lies below hi
abbrev pub holds : Bound → Bound → ℕ → Bool
holds lo hi k = not (below (Key k) lo) && below (Key k) hi

-- where a lies, seen from b
abbrev pub order : Bound → Bound → Ordering
order a b = cond (below a b) Less (cond (below b a) Greater Equal)
