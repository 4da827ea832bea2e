-- The numbers that the documents name, for definitions; src/lib.rt has those that code uses.
-- Assumes nothing.
use Rattle.std.specs.Prelude.{ℕ, ◌^◌}

-- the most bytes that a value may have
abbrev pub value_max : ℕ
value_max = 1023

-- the most bytes that a list of entries may take; an address is shorter
abbrev pub bytes_max : ℕ
bytes_max = 0x100000

-- a transfer has fewer entries than this
abbrev pub entries_limit : ℕ
entries_limit = 62

-- a datagram has room for at least so many bytes
abbrev pub datagram_min : ℕ
datagram_min = 65_536

-- the count of transfers is below this
abbrev pub transfers_limit : ℕ
transfers_limit = 0x7fffffffffffffff

-- retransmission acts on every so many of its turns
abbrev pub resend_every : ℕ
resend_every = 100_000_000

-- numbers and keys have 64 bits: they lie below this
abbrev pub numbers : ℕ
numbers = 2 ^ 64
