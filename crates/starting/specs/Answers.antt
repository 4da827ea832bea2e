-- What starting a host answers (document 01, sections 5 and 6). The hosts' addresses are handed in as a list of byte strings.
-- Assumes nothing.
use Rattle.std.specs.Prelude.{◌≡◌, List, ℕ, ◌*◌, ◌≤◌, ◌<◌, length, Result, Ok, Err}
use Rattle.std.proofs.Math.Option.{none, some}
use Rattle.limits.specs.Limits.{datagram_min}
use Rattle.message.specs.Message.{Address}
use Rattle.strings.specs.Strings.{WellFormed}
use Rattle.distinct.specs.Distinct.{string}
use Rattle.delivery.specs.Memory.{capacity}
use Rattle.records.specs.Memory.{Shape}
use Rattle.protocol.specs.State.{Host, start}
use Rattle.hosts.specs.Memory.{Memory}
use Rattle.hosts.specs.Says.{firsts}
use Rattle.hosts.specs.Keeps.{Sized, Keeps}
use Rattle.hosts.specs.declared.State.{State}
use Rattle.starting.specs.declared.Refused.{Refused}
use Rattle.starting.specs.declared.Refused.TheVariants.{NoHost, Unfit}

-- the addresses of the list
abbrev pub addresses : (ats lens bytes : List ℕ) → ℕ → List Address
addresses ats lens bytes n = firsts (string ats lens bytes) n

-- What is lent can serve n hosts with addresses of so many bytes: every message that a host sends fits, datagrams and the room have at least the
-- size that document 01 names, there is a place for each host, for a bound and for a waiting message, and the slices of each layer fit together
pub record Serves (m : Memory) (room : List ℕ) (width size n : ℕ) (addressLens : ℕ → ℕ) : Type 0 where
  pub sized : Sized width size
  pub least : datagram_min ≤ size
  pub room_fits : size ≤ length room
  pub wide : 0 < width
  pub short : (i : ℕ) → i < n → addressLens i ≤ width
  pub name_lens : n ≤ length m.name_lens
  pub names : n * width ≤ length m.names
  pub counts : n * 3 ≤ length m.counts
  pub lows : 0 < length m.lows
  pub owners : 0 < length m.owners
  pub table : Shape (length m.keys) (length m.slots) (length m.lens) (length m.values) 0
  pub places : 0 < capacity m.places
  pub mail : capacity m.places * size ≤ length m.mail

-- memory keeps the host that the definition starts; or the definition starts none; or what is lent does not serve. A refusal leaves memory as it was
abbrev pub StartCases : Result State Refused → Memory → (room : List ℕ) → (width size : ℕ) → (ats lens bytes : List ℕ) → ℕ → Address → Memory → Type 0
StartCases (Ok k) m room width size ats lens bytes n me m' =
    (h : Host) × (start (addresses ats lens bytes n) me ≡ some h) × Keeps m' k room h
StartCases (Err NoHost) m room width size ats lens bytes n me m' =
    (m' ≡ m) × (WellFormed ats lens n (length bytes) → start (addresses ats lens bytes n) me ≡ none)
StartCases (Err Unfit) m room width size ats lens bytes n me m' =
    (m' ≡ m) × (Serves m room width size n (λ i. length (string ats lens bytes i)) → ⊥)

pub record AfterStart (m : Memory) (room : List ℕ) (width size : ℕ) (ats lens bytes : List ℕ) (n : ℕ) (me : Address) (r : Result State Refused) (m' : Memory)
    : Type 0 where
  pub is : StartCases r m room width size ats lens bytes n me m'
