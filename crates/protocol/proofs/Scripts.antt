-- Scripts of some ten events, computed: the outcomes, the datagrams and the states are those that document 01 implies.
-- Assumes nothing.
use mathlib.Core.Path.{◌≡◌, refl}
use mathlib.Core.Bool.{true, false}
use mathlib.Core.List.{List, [], ◌∷◌, ◌++◌}
use mathlib.Core.Option.{none, some}
use Prim.Native.Nat.{ℕ, zero, suc, ◌-◌}
use Rattle.keys.specs.declared.Bound.TheVariants.{Key, End}
use Rattle.limits.specs.Limits.{value_max, entries_limit, transfers_limit}
use Rattle.format.specs.Number.{numbers, digits, worth}
use Rattle.format.specs.Format.{Entry}
use Rattle.message.specs.Message.{Address, Datagram, get, set, reply, redirect, shard, delegate, message, ack}
use Rattle.message.specs.Table.{written}
use Rattle.decoding.specs.Decode.{list_of, value_of}
use Rattle.protocol.specs.Owners.{owner_of}
use Rattle.protocol.specs.State.{Host, fresh, start, delivered, done, turned}
use Rattle.protocol.specs.Delivery.{Packet, Outcome, Step, packet, ack_to, full, invalid, elsewhere, taken, unreceived, again, future, arrived, idle, stuck, replied, redirected, dropped, unnumbered, accepted, handed, resent, waits, posted}
use Rattle.protocol.specs.Receive.{receive}
use Rattle.protocol.specs.Process.{process}
use Rattle.protocol.specs.Retransmit.{retransmit}
use Rattle.protocol.specs.Turn.{round, turn}

-- ---- two hosts and a client

abbrev A : Address
A = 0x61 ∷ []

abbrev B : Address
B = 0x62 ∷ []

abbrev C : Address
C = 0x63 ∷ []

abbrev hosts : List Address
hosts = A ∷ B ∷ []

-- ---- playing a script

data Event : Type 0 where
  bring : Address → Datagram → Event
  spoil : Address → List ℕ → Event
  crowded : Address → Datagram → Event
  work : Event
  resend : Event

step : Event → Host → Step
step (bring a m) h = receive true h a (written m)
step (spoil a s) h = receive true h a s
step (crowded a m) h = receive false h a (written m)
step work h = process true h
step resend h = retransmit h

outcomes : List Event → Host → List Outcome
unfolding step
outcomes [] h = []
outcomes (e ∷ l) h = (step e h).outcome ∷ outcomes l (step e h).state

sends : List Event → Host → List Packet
unfolding step
sends [] h = []
sends (e ∷ l) h = (step e h).sends ++ sends l (step e h).state

after : List Event → Host → Host
unfolding step
after [] h = h
after (e ∷ l) h = after l (step e h).state

-- both hosts start with the same list, and the first owns everything
starts : (start hosts A ≡ some (fresh A hosts A)) × (start hosts B ≡ some (fresh A hosts B)) × (start hosts C ≡ none) × (start [] A ≡ none)
    × (start (A ∷ A ∷ []) A ≡ none)
starts = (refl, refl, refl, refl, refl)

-- ---- a client stores a record at A, the range moves to B, and the client is sent there

abbrev x : List ℕ
x = 0x78 ∷ []

storing : List Event
storing =
    bring C (message 1 A (set 5 (some x)))
    ∷ work
    ∷ bring C (ack 1)
    ∷ bring C (message 2 A (shard (Key 0) (Key 10) B))
    ∷ work
    ∷ bring C (message 3 A (get 5))
    ∷ work
    ∷ bring C (message 4 A (get 10))
    ∷ work
    ∷ bring B (ack 1)
    ∷ []

storing_outcomes : outcomes storing (fresh A hosts A)
    ≡ taken ∷ replied ∷ arrived ∷ taken ∷ handed ∷ taken ∷ redirected ∷ taken ∷ replied ∷ arrived ∷ []
unfolding storing outcomes step list_of value_of worth digits
storing_outcomes = refl

storing_sends : sends storing (fresh A hosts A)
    ≡ ack_to C 1 ∷ packet 1 C (reply 5 (some x))
    ∷ ack_to C 2 ∷ packet 1 B (delegate (Key 0) (Key 10) (record { key = 5; value = x } ∷ []))
    ∷ ack_to C 3 ∷ packet 2 C (redirect 5 B)
    ∷ ack_to C 4 ∷ packet 3 C (reply 10 none)
    ∷ []
unfolding storing sends step list_of value_of worth digits
storing_sends = refl

-- afterwards key 5 is B's and no record of it is left at A, the transfer has arrived, and two replies wait for the client
storing_after : (owner_of (after storing (fresh A hosts A)).owners 5 ≡ B) × (owner_of (after storing (fresh A hosts A)).owners 10 ≡ A)
    × ((after storing (fresh A hosts A)).records ≡ []) × ((after storing (fresh A hosts A)).transfers ≡ 2)
    × ((after storing (fresh A hosts A)).waiting B ≡ []) × ((after storing (fresh A hosts A)).waiting C ≡ redirect 5 B ∷ reply 10 none ∷ [])
    × ((after storing (fresh A hosts A)).received C ≡ 4)
unfolding storing after step list_of value_of worth digits
storing_after = (refl, refl, refl, refl, refl, refl, refl)

-- ---- the transfer at B: lost, sent again, taken once; what comes from elsewhere, damaged, too early or without room changes nothing

abbrev given : Datagram
given = message 1 B (delegate (Key 0) (Key 10) (record { key = 5; value = x } ∷ []))

taking : List Event
taking =
    bring C (message 1 A (get 5))
    ∷ spoil A (2 ∷ [])
    ∷ bring A (message 2 B (get 5))
    ∷ crowded A given
    ∷ bring A given
    ∷ bring A given
    ∷ work
    ∷ bring A given
    ∷ bring C (message 1 B (get 5))
    ∷ work
    ∷ resend
    ∷ []

taking_outcomes : outcomes taking (fresh A hosts B)
    ≡ elsewhere ∷ invalid ∷ future ∷ unreceived ∷ taken ∷ full ∷ accepted ∷ again ∷ taken ∷ replied ∷ resent ∷ []
unfolding taking outcomes step list_of value_of worth digits
taking_outcomes = refl

taking_sends : sends taking (fresh A hosts B)
    ≡ ack_to A 1 ∷ ack_to A 1 ∷ ack_to C 1 ∷ packet 1 C (reply 5 (some x)) ∷ packet 1 C (reply 5 (some x)) ∷ []
unfolding taking sends step list_of value_of worth digits
taking_sends = refl

taking_after : (owner_of (after taking (fresh A hosts B)).owners 5 ≡ B) × ((after taking (fresh A hosts B)).transfers ≡ 2)
    × ((after taking (fresh A hosts B)).records ≡ record { key = 5; value = x } ∷ []) × ((after taking (fresh A hosts B)).peers ≡ A ∷ B ∷ C ∷ [])
unfolding taking after step list_of value_of worth digits
taking_after = (refl, refl, refl, refl)

-- ---- the rows of the table that drop a message, and the limits

-- a value of n bytes
zeros : ℕ → List ℕ
zeros zero = []
zeros (suc n) = 0 ∷ zeros n

dropping : List Event
dropping =
    bring C (message 1 A (set 5 (some (zeros (suc value_max)))))
    ∷ work
    ∷ bring C (message 2 A (shard (Key 0) End A))
    ∷ work
    ∷ bring C (message 3 A (shard (Key 0) End C))
    ∷ work
    ∷ bring C (message 4 A (shard (Key 5) (Key 5) B))
    ∷ work
    ∷ bring C (message 5 A (delegate (Key 0) End []))
    ∷ work
    ∷ bring C (message 6 A (reply 5 none))
    ∷ work
    ∷ work
    ∷ bring C (ack 1)
    ∷ []

dropping_outcomes : outcomes dropping (fresh A hosts A)
    ≡ taken ∷ dropped ∷ taken ∷ dropped ∷ taken ∷ dropped ∷ taken ∷ dropped ∷ taken ∷ dropped ∷ taken ∷ dropped ∷ idle ∷ arrived ∷ []
unfolding dropping zeros outcomes step list_of value_of worth digits
dropping_outcomes = refl

-- nothing was stored, moved or counted; the Ack from the future skips a number
dropping_after : ((after dropping (fresh A hosts A)).records ≡ []) × ((after dropping (fresh A hosts A)).transfers ≡ 1)
    × (owner_of (after dropping (fresh A hosts A)).owners 5 ≡ A) × ((after dropping (fresh A hosts A)).acknowledged C ≡ 1)
unfolding dropping zeros after step list_of value_of worth digits
dropping_after = (refl, refl, refl, refl)

-- ---- the limit on entries: a transfer of that many is neither taken nor made, and one of one fewer is

-- n entries, their keys from k on
rows : ℕ → ℕ → List Entry
rows k zero = []
rows k (suc n) = record { key = k; value = [] } ∷ rows (suc k) n

-- a host brings a Delegate of n entries
filling : ℕ → List Event
filling n = bring B (message 1 A (delegate (Key 0) End (rows 0 n))) ∷ work ∷ []

-- a host has n entries and is asked for all of them
stocked : ℕ → Host
stocked n = done (record { first = A; grants = [] }) (rows 0 n) 1 (fresh A hosts A)

emptying : List Event
emptying = bring C (message 1 A (shard (Key 0) End B)) ∷ work ∷ []

filling_outcomes : (outcomes (filling entries_limit) (fresh B hosts A) ≡ taken ∷ dropped ∷ [])
    × (outcomes (filling (entries_limit - 1)) (fresh B hosts A) ≡ taken ∷ accepted ∷ [])
unfolding filling rows outcomes step list_of value_of worth digits
filling_outcomes = (refl, refl)

emptying_outcomes : (outcomes emptying (stocked entries_limit) ≡ taken ∷ dropped ∷ [])
    × (outcomes emptying (stocked (entries_limit - 1)) ≡ taken ∷ handed ∷ [])
unfolding emptying stocked rows outcomes step list_of value_of worth digits
emptying_outcomes = (refl, refl)

-- numbers that ran out: a request is not executed, and a Shard only raises the count
late : Host
late = delivered (λ a. numbers - 1) (λ a. []) (fresh A hosts A)

asking : List Event
asking =
    bring C (message 1 A (set 5 (some x)))
    ∷ work
    ∷ bring C (message 2 A (get 5))
    ∷ work
    ∷ bring C (message 3 A (shard (Key 0) End B))
    ∷ work
    ∷ []

late_outcomes : outcomes asking late ≡ taken ∷ unnumbered ∷ taken ∷ unnumbered ∷ taken ∷ unnumbered ∷ []
unfolding asking late outcomes step list_of value_of worth digits
late_outcomes = refl

late_after : ((after asking late).records ≡ []) × ((after asking late).transfers ≡ 2) × (owner_of (after asking late).owners 5 ≡ A)
unfolding asking late after step list_of value_of worth digits
late_after = (refl, refl, refl)

-- at the limit of transfers a Shard stays in the room, and nothing else is taken
crowd : Host
crowd = done (record { first = A; grants = [] }) [] (transfers_limit - 2) (fresh A hosts A)

staying : List Event
staying = bring C (message 1 A (shard (Key 0) End B)) ∷ work ∷ bring C (message 2 A (get 5)) ∷ work ∷ []

crowd_outcomes : outcomes staying crowd ≡ taken ∷ stuck ∷ full ∷ stuck ∷ []
unfolding staying crowd outcomes step list_of value_of worth digits
crowd_outcomes = refl

-- ---- turns: receive without a datagram, process, and retransmit, which is not due; and the last turn of a round, on which it is

abbrev first : Step
first = turn true true (fresh A hosts A) none

abbrev second : Step
second = turn true true first.state none

abbrev third : Step
third = turn true true second.state none

turns_outcomes : (first.outcome ≡ waits) × (second.outcome ≡ idle) × (third.outcome ≡ waits) × (third.state.turns ≡ 3)
turns_outcomes = (refl, refl, refl, refl)

-- a message waits for B
abbrev last : Host
last = turned (round - 1) (posted B (get 5) (fresh A hosts A))

last_turn : ((turn true true last none).outcome ≡ resent) × ((turn true true last none).sends ≡ packet 1 B (get 5) ∷ [])
    × ((turn true true last none).state.turns ≡ 0)
last_turn = (refl, refl, refl)
