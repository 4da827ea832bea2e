-- A value at a place of the bytes, which is how readers work: they have the whole datagram and a place in it.
-- Assumes nothing.
use Rattle.std.specs.Prelude.{◌≡◌, List, [], ◌∷◌, ◌++◌, ℕ, zero, suc, ◌+◌, ◌≤◌, length, drop}
use Rattle.memory.specs.Bytes.{part}
use Rattle.format.specs.Number.{width, numbers, worth}
use Rattle.format.specs.Format.{Format, number, string, pair, Of, Entry, rows, encode, Above, Small, Good}

-- the value v of the format is written in s from place `at` up to place `next`
pub record Stands (f : Format) (s : List ℕ) (at : ℕ) (v : Of f) (next : ℕ) : Type 0 where
  pub good : Good f v
  pub long : next ≡ at + length (encode f v)
  pub within : next ≤ length s
  pub is : drop at s ≡ encode f v ++ drop next s

-- no value of the format is written in s from place `at` on, whatever follows it
pub record Lacks (f : Format) (s : List ℕ) (at : ℕ) : Type 0 where
  pub no : (v : Of f) → Good f v → (rest : List ℕ) → drop at s ≡ encode f v ++ rest → ⊥

-- the n entries whose keys, lengths and values stand in s one after the other from place `at` on
abbrev pub listed : List ℕ → ℕ → ℕ → List Entry
listed s at zero = []
listed s at (suc n) =
    record { key = worth s at width; value = part s (at + width + width) (worth s (at + width) width) }
    ∷ listed s (at + width + width + worth s (at + width) width) n

-- ---- a part of a list: what is left of it from a place on

-- an entry, as a format of its own
abbrev pub row : Format
row = pair number (string numbers)

-- the n entries of l are written in s from place `at` up to place `next`, with keys that rise from `low` on
pub record Rest (s : List ℕ) (at n low : ℕ) (l : List Entry) (next : ℕ) : Type 0 where
  pub count : length l ≡ n
  pub small : Small l
  pub above : Above low l
  pub long : next ≡ at + length (rows l)
  pub within : next ≤ length s
  pub is : drop at s ≡ rows l ++ drop next s

-- no n entries with such keys are written there
pub record NoRest (s : List ℕ) (at n low : ℕ) : Type 0 where
  pub no : (l : List Entry) → length l ≡ n → Small l → Above low l → (rest : List ℕ) → drop at s ≡ rows l ++ rest → ⊥

-- whatever is so of the m entries left at place `at` decides the n entries at place `from`
pub record Leads (s : List ℕ) (from n at m low : ℕ) : Type 0 where
  pub found : (l : List Entry) (next : ℕ) → Rest s at m low l next → (l' : List Entry) × Rest s from n 0 l' next
  pub lacks : NoRest s at m low → NoRest s from n 0
