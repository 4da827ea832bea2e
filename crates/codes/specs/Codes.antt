-- What the exported functions answer: outcomes as fixed numbers, and the place of the datagram to send.
-- Assumes nothing.
use Rattle.std.specs.Prelude.{Bool, true, false, ℕ, ◌-◌, Result, Ok, Err}
use Rattle.limits.specs.Limits.{numbers as allNumbers}
use Rattle.hosts.specs.declared.Processed.{Processed}
use Rattle.hosts.specs.declared.Processed.TheVariants.{Idle, Stuck, Replied, Redirected, Dropped, Unnumbered, Accepted, Handed}
use Rattle.hosts.specs.declared.State.{State}
use Rattle.limits.specs.declared.NoRoom.{NoRoom}
use Rattle.starting.specs.declared.Refused.{Refused}
use Rattle.starting.specs.declared.Refused.TheVariants.{NoHost, Unfit as NotStarted}
use Rattle.incoming.specs.declared.Received.{Received}
use Rattle.incoming.specs.declared.Received.TheVariants.{Full, Invalid, Elsewhere, Taken, Unreceived, Again, Future, Arrived, Stale, Unfit as TooShort}
use Rattle.rounds.specs.declared.Turned.{Turned}
use Rattle.rounds.specs.declared.Turned.TheVariants.{Came, Did, Resent, Waits, Unfit as NotLent}

-- what was lent does not serve: nothing was done
abbrev pub unfit : ℕ
unfit = 2

abbrev pub started_code : Result State Refused → ℕ
started_code (Ok k) = 0
started_code (Err NoHost) = 1
started_code (Err NotStarted) = unfit

abbrev pub received_code : Received → ℕ
received_code Full = 10
received_code Invalid = 11
received_code Elsewhere = 12
received_code Taken = 13
received_code Unreceived = 14
received_code Again = 15
received_code Future = 16
received_code Arrived = 17
received_code Stale = 18
received_code TooShort = unfit

abbrev pub processed_code : Processed → ℕ
processed_code Idle = 20
processed_code Stuck = 21
processed_code (Replied p) = 22
processed_code (Redirected p) = 23
processed_code Dropped = 24
processed_code Unnumbered = 25
processed_code Accepted = 26
processed_code (Handed p) = 27

-- the place of the datagram to send; 0 where there is none
abbrev pub processed_place_of : Processed → ℕ
processed_place_of Idle = 0
processed_place_of Stuck = 0
processed_place_of (Replied p) = p
processed_place_of (Redirected p) = p
processed_place_of Dropped = 0
processed_place_of Unnumbered = 0
processed_place_of Accepted = 0
processed_place_of (Handed p) = p

-- there are too few places or too few words to send again: the largest number, which no count comes near
abbrev pub no_places : ℕ
no_places = allNumbers - 1

abbrev pub repeated_code : Result ℕ NoRoom → ℕ
repeated_code (Ok n) = n
repeated_code (Err e) = no_places

abbrev pub turned_code : Turned → ℕ
turned_code (Came r) = received_code r
turned_code (Did r) = processed_code r
turned_code (Resent n) = 30
turned_code Waits = 31
turned_code NotLent = unfit

-- the place of the datagram to send, or how many places of datagrams to send were written down; after receiving the hint, which says nothing; 0
-- where there is none
abbrev pub turned_place_of : Turned → (hint : ℕ) → ℕ
turned_place_of (Came r) hint = hint
turned_place_of (Did r) hint = processed_place_of r
turned_place_of (Resent n) hint = n
turned_place_of Waits hint = 0
turned_place_of NotLent hint = 0

-- whether memory keeps a host
abbrev pub audited_code : Bool → ℕ
audited_code false = 0
audited_code true = 1
