-- What the tests on lent memory answer, and the numbers of a new host.
-- Assumes nothing.
use Rattle.std.specs.Prelude.{◌≡◌, Bool, true, false, ℕ, ◌*◌, ◌/◌, ◌≤◌, ◌<◌}
use Rattle.limits.specs.Limits.{datagram_min}
use Rattle.records.specs.Memory.{Shape}
use Rattle.hosts.specs.declared.State.{State}
use Rattle.hosts.specs.Keeps.{Sized}

-- r says whether A holds
pub record Tells (A : Type 0) (r : Bool) : Type 0 where
  pub yes : r ≡ true → A
  pub no : r ≡ false → A → ⊥

-- every message that a host sends fits a datagram, and a datagram the room
pub record Datagrams (width size room : ℕ) : Type 0 where
  pub sized : Sized width size
  pub least : datagram_min ≤ size
  pub room_fits : size ≤ room
  pub wide : 0 < width

-- what `Serves` says, but for the addresses' lengths
pub record Lengths (lows owners keys slots lens values name_lens names counts places mail room width size n : ℕ) : Type 0 where
  pub datagrams : Datagrams width size room
  pub low : 0 < lows
  pub owner : 0 < owners
  pub fits_lens : n ≤ name_lens
  pub fits_names : n * width ≤ names
  pub fits_counts : n * 3 ≤ counts
  pub place : 0 < places / 3
  pub fits_mail : places / 3 * size ≤ mail
  pub table : Shape keys slots lens values 0

-- the numbers of a host that has only started: nothing is stored, the room is free, and the count of transfers is 1
abbrev pub begun : (own n width size bounds : ℕ) → State
begun own n width size bounds = record {
  me = own;
  hosts = n;
  peers = n;
  width = width;
  size = size;
  bounds = bounds;
  entries = 0;
  len = 0;
  from = 0;
  transfers = 1;
  turns = 0;
}
