-- What the tests on a Delegate answer.
-- Assumes nothing.
use Rattle.std.specs.Prelude.{◌≡◌, Bool, true, false, ◌&&◌, List, [], ℕ, ◌+◌, ◌≤◌, ◌<◌, length, get_or, ltb}
use Rattle.limits.specs.Limits.{value_max, entries_limit}
use Rattle.keys.specs.declared.Bound.{Bound}
use Rattle.keys.specs.Bound.{below}
use Rattle.memory.specs.Bytes.{part}
use Rattle.format.specs.Format.{Entry}
use Rattle.format.specs.Place.{listed, Rest}
use Rattle.protocol.specs.Process.{any_long}
use Rattle.hosts.specs.declared.State.{State}

-- r says whether the range has a key, the entries are few enough, and the sender is a host
pub record Fine (k : State) (lo hi : Bound) (count : ℕ) (r : Bool) : Type 0 where
  pub is : r ≡ below lo hi && (ltb count entries_limit && ltb k.from k.hosts)

-- ---- the list as columns

abbrev pub entry_at : List Entry → ℕ → Entry
entry_at es i = get_or es i (record { key = 0; value = [] })

-- entry i of the list stands at place i of the columns, its value within the bytes and short enough
pub record Row (s : List ℕ) (es : List Entry) (ks ats ls : List ℕ) (i : ℕ) : Type 0 where
  pub key : get_or ks i 0 ≡ (entry_at es i).key
  pub value : part s (get_or ats i 0) (get_or ls i 0) ≡ (entry_at es i).value
  pub inside : get_or ats i 0 + get_or ls i 0 ≤ length s
  pub short : get_or ls i 0 ≤ value_max

pub record Filled (s : List ℕ) (es : List Entry) (ks ats ls : List ℕ) : Type 0 where
  pub fits_keys : length es ≤ length ks
  pub fits_ats : length es ≤ length ats
  pub fits_lens : length es ≤ length ls
  pub each : (i : ℕ) → i < length es → Row s es ks ats ls i

-- the list's m entries stand in the columns, or a value is too long, if each column has room for so many
pub record AfterColumns (s : List ℕ) (at m : ℕ) (r : Bool) (ks ats ls : List ℕ) : Type 0 where
  pub yes : r ≡ true → (next : ℕ) → Rest s at m 0 (listed s at m) next
      → (any_long (listed s at m) ≡ false) × Filled s (listed s at m) ks ats ls
  pub no : r ≡ false → m ≤ length ks → m ≤ length ats → m ≤ length ls → (next : ℕ) → Rest s at m 0 (listed s at m) next
      → any_long (listed s at m) ≡ true
