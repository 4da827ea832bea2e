-- Addresses as small numbers: what is kept in lent memory, and what the functions over it answer. An address keeps its number for good; the
-- configured hosts come first.
-- Assumes nothing.
use Rattle.std.specs.Prelude.{◌≡◌, Bool, true, false, cond, List, ℕ, min, ◌+◌, ◌*◌, ◌-◌, ◌/◌, ◌≤◌, ◌<◌, length, get_or, eqb, Option, Some, None, Result, Ok, Err}
use Rattle.memory.specs.Bytes.{part}
use Rattle.peers.specs.declared.Refused.{Refused}
use Rattle.peers.specs.declared.Refused.TheVariants.{Full, TooLong}

-- Memory keeps the addresses of n peers, N i being that of peer i: each stands at its place in the names, which are so many bytes wide, its
-- length beside it, and no two are equal
pub record Keeps (lens names : List ℕ) (width n : ℕ) (N : ℕ → List ℕ) : Type 0 where
  pub wide : 0 < width
  pub fits_lens : n ≤ length lens
  pub fits_names : n * width ≤ length names
  pub short : (i : ℕ) → i < n → get_or lens i 0 ≤ width
  pub is : (i : ℕ) → i < n → part names (i * width) (get_or lens i 0) ≡ N i
  pub distinct : (i j : ℕ) → i < n → j < n → N i ≡ N j → i ≡ j

-- how many addresses what is lent has room for
abbrev pub places : List ℕ → List ℕ → ℕ → ℕ
places lens names width = min (length lens) (length names / width)

-- the addresses with a for peer n
abbrev pub joined : ℕ → List ℕ → (ℕ → List ℕ) → ℕ → List ℕ
joined n a N i = cond (eqb i n) a (N i)

-- r says whether the address a stands at place i, so long
pub record Standing (names : List ℕ) (width i len : ℕ) (a : List ℕ) (r : Bool) : Type 0 where
  pub yes : r ≡ true → (len ≤ width) × (part names (i * width) len ≡ a)
  pub no : r ≡ false → len ≤ width → part names (i * width) len ≡ a → ⊥

-- the peer with that address, or none has it
abbrev pub FindCases : Option ℕ → (lens names : List ℕ) → ℕ → ℕ → List ℕ → Type 0
FindCases (Some i) lens names width n a = (N : ℕ → List ℕ) → Keeps lens names width n N → (i < n) × (N i ≡ a)
FindCases None lens names width n a = (N : ℕ → List ℕ) → Keeps lens names width n N → (i : ℕ) → i < n → N i ≡ a → ⊥

pub record AfterFind (lens names : List ℕ) (width n : ℕ) (a : List ℕ) (r : Option ℕ) : Type 0 where
  pub is : FindCases r lens names width n a

-- the peer's address stands in the names from one byte up to another, or there is no such peer. What is named lies within the names in any case
abbrev pub NameCases : Option (ℕ × ℕ) → (lens names : List ℕ) → ℕ → ℕ → Type 0
NameCases (Some (from, to)) lens names width i =
    (from ≤ to) × (to ≤ length names)
    × ((n : ℕ) (N : ℕ → List ℕ) → Keeps lens names width n N → i < n → part names from (to - from) ≡ N i)
NameCases None lens names width i = (n : ℕ) (N : ℕ → List ℕ) → Keeps lens names width n N → i < n → ⊥

pub record AfterName (lens names : List ℕ) (width i : ℕ) (r : Option (ℕ × ℕ)) : Type 0 where
  pub is : NameCases r lens names width i

-- an address that no peer has gets the next number, or there is no place for it, or it is too long for one: then nothing has changed
abbrev pub AddCases : Result ℕ Refused → (lens names : List ℕ) → ℕ → ℕ → List ℕ → (lens' names' : List ℕ) → Type 0
AddCases (Ok i) lens names width n a lens' names' =
    (i ≡ n)
    × ((N : ℕ → List ℕ) → Keeps lens names width n N → ((j : ℕ) → j < n → N j ≡ a → ⊥) → Keeps lens' names' width (n + 1) (joined n a N))
AddCases (Err Full) lens names width n a lens' names' = (lens' ≡ lens) × (names' ≡ names) × (0 < width → places lens names width ≤ n)
AddCases (Err TooLong) lens names width n a lens' names' = (lens' ≡ lens) × (names' ≡ names) × (width < length a)

pub record AfterAdd (lens names : List ℕ) (width n : ℕ) (a : List ℕ) (r : Result ℕ Refused) (lens' names' : List ℕ) : Type 0 where
  pub is : AddCases r lens names width n a lens' names'
