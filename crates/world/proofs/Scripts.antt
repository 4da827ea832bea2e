-- Runs that compute: the theorem is about something. Two hosts, A and B, and a client C.
-- Assumes nothing.
use mathlib.Core.Path.{◌≡◌, refl}
use mathlib.Core.Bool.{true}
use mathlib.Core.List.{List, [], ◌∷◌, ◌++◌}
use mathlib.Core.Option.{some}
use Prim.Native.Nat.{ℕ, zero, suc}
use lib.ListN.{length, drop}
use Rattle.keys.specs.declared.Bound.TheVariants.{Key, End}
use Rattle.limits.specs.Limits.{entries_limit}
use Rattle.format.specs.Number.{digits, worth}
use Rattle.format.specs.Format.{Entry}
use Rattle.message.specs.Message.{Address, Datagram, get, set, reply, shard, delegate, message, ack}
use Rattle.message.specs.Table.{written}
use Rattle.decoding.specs.Decode.{list_of, value_of}
use Rattle.protocol.specs.Address.{at}
use Rattle.protocol.specs.State.{fresh, done}
use Rattle.protocol.specs.Delivery.{Act, got, stored}
use Rattle.world.specs.World.{Executed, World, begin}
use Rattle.world.specs.Events.{network, stranger, receiving, processing, retransmitting, Event, nth, run}
use Rattle.world.specs.Claims.{on_the_way, host, transfer, claims}
use Rattle.world.specs.Single.{table_of}

abbrev pub A : Address
A = 0x61 ∷ []

abbrev pub B : Address
B = 0x62 ∷ []

abbrev pub C : Address
C = 0x63 ∷ []

abbrev x : List ℕ
x = 0x78 ∷ []

-- ---- events

-- the client's datagram arrives
abbrev pub asks : Address → Datagram → Event
asks h d = record { host = h; move = receiving (stranger C (written d)) true; out = 9 }

-- the datagram with that place among all that were handed out is brought to h
abbrev pub brings : Address → ℕ → Event
brings h n = record { host = h; move = receiving (network n) true; out = 9 }

-- all that is to be sent is handed out, or nothing is
abbrev pub works : Address → Event
works h = record { host = h; move = processing true; out = 9 }

abbrev pub works_mutely : Address → Event
works_mutely h = record { host = h; move = processing true; out = 0 }

abbrev resends : Address → Event
resends h = record { host = h; move = retransmitting; out = 9 }

-- ---- a record is stored at A, its range moves to B, the transfer is lost and sent again, and B answers

abbrev moving : List Event
moving =
    asks A (message 1 A (set 5 (some x)))
    ∷ works A
    ∷ asks A (message 2 A (shard (Key 0) (Key 10) B))
    ∷ works_mutely A
    ∷ []

abbrev arriving : List Event
arriving = resends A ∷ brings B 3 ∷ []

abbrev asking : List Event
asking = works B ∷ asks B (message 1 B (get 5)) ∷ works B ∷ []

-- the key is A's; then it is the transfer's, though no datagram with it was handed out; then the transfer's, in B's room; then B's
moving_claims : (claims (begin A (B ∷ [])) 5 ≡ host A ∷ [])
    × (claims (run (begin A (B ∷ [])) moving) 5 ≡ transfer A B 0 ∷ [])
    × (claims (run (begin A (B ∷ [])) (moving ++ arriving)) 5 ≡ transfer A B 0 ∷ [])
    × (claims (run (begin A (B ∷ [])) (moving ++ arriving ++ asking)) 5 ≡ host B ∷ [])
    × (claims (run (begin A (B ∷ [])) (moving ++ arriving ++ asking)) 10 ≡ host A ∷ [])
unfolding digits worth list_of value_of
moving_claims = (refl, refl, refl, refl, refl)

abbrev moved : World
moved = run (begin A (B ∷ [])) (moving ++ arriving ++ asking)

-- by then eight datagrams were handed out, the transfer among them on the second try, and at last B's answer to the client
moved_sends : (nth 3 moved.sent
    ≡ some (record { from = A; to = B; bytes = written (message 1 B (delegate (Key 0) (Key 10) (record { key = 5; value = x } ∷ []))) }))
    × (drop 7 moved.sent ≡ record { from = B; to = C; bytes = written (message 1 C (reply 5 (some x))) } ∷ [])
unfolding digits worth list_of value_of
moved_sends = (refl, refl)

-- the Set at A and then the Get at B, as one table would answer them
acts : List Executed → List Act
acts [] = []
acts (e ∷ l) = e.request.act ∷ acts l

moved_acts : acts moved.executed ≡ got 5 (some x) ∷ stored 5 (some x) ∷ []
unfolding acts digits worth list_of value_of
moved_acts = refl

-- nothing of the range is left at A, and the transfer was carried out
moved_records : ((moved.state A).records ≡ []) × ((moved.state B).records ≡ record { key = 5; value = x } ∷ [])
    × (moved.carried A B ≡ delegate (Key 0) (Key 10) (record { key = 5; value = x } ∷ []) ∷ [])
unfolding digits worth list_of value_of
moved_records = (refl, refl, refl)

-- ---- a transfer that is brought again changes nothing; an Ack is given again

abbrev again : World
again = run moved (brings B 3 ∷ works B ∷ [])

again_same : (claims again 5 ≡ host B ∷ []) × ((again.state B).records ≡ record { key = 5; value = x } ∷ []) × (length (again.carried A B) ≡ 1)
    × (length again.sent ≡ 9)
unfolding digits worth list_of value_of
again_same = (refl, refl, refl, refl)

-- ---- a Shard arrives while a Set is in the room: it is dropped, and taken when it comes again. The Set is carried out before the range moves, so
-- the record goes along

abbrev crowded : List Event
crowded =
    asks A (message 1 A (set 5 (some x)))
    ∷ asks A (message 2 A (shard (Key 0) End B))
    ∷ works A
    ∷ asks A (message 2 A (shard (Key 0) End B))
    ∷ works A
    ∷ []

crowded_moves : (claims (run (begin A (B ∷ [])) crowded) 5 ≡ transfer A B 0 ∷ [])
    × (on_the_way (run (begin A (B ∷ [])) crowded) A B ≡ delegate (Key 0) End (record { key = 5; value = x } ∷ []) ∷ [])
    × (table_of (run (begin A (B ∷ [])) crowded).executed 5 ≡ some x) × (length (run (begin A (B ∷ [])) crowded).sent ≡ 4)
unfolding digits worth list_of value_of
crowded_moves = (refl, refl, refl, refl)

-- ---- the second transfer overtakes the first: it is from the future and waits for its turn

abbrev overtaking : World
overtaking =
    run (begin A (B ∷ []))
    (asks A (message 1 A (shard (Key 0) (Key 10) B))
    ∷ works A
    ∷ asks A (message 2 A (shard (Key 20) (Key 30) B))
    ∷ works A
    ∷ brings B 3
    ∷ works B
    ∷ brings B 1
    ∷ works B
    ∷ [])

overtaking_waits : (claims overtaking 5 ≡ host B ∷ []) × (claims overtaking 25 ≡ transfer A B 0 ∷ []) × (length (overtaking.carried A B) ≡ 1)
unfolding digits worth list_of value_of
overtaking_waits = (refl, refl, refl)

-- ---- a range goes to B and comes back, and then the old transfer is brought to B once more: it is an old one still, though an Ack has come since

abbrev returning : World
returning =
    run (begin A (B ∷ []))
    (asks A (message 1 A (shard (Key 0) (Key 10) B))
    ∷ works A
    ∷ brings B 1
    ∷ works B
    ∷ asks B (message 1 B (shard (Key 0) (Key 10) A))
    ∷ works B
    ∷ brings A 4
    ∷ works A
    ∷ brings B 5
    ∷ brings B 1
    ∷ works B
    ∷ [])

returning_stays : claims returning 5 ≡ host A ∷ []
unfolding digits worth list_of value_of
returning_stays = refl

-- ---- the limit on entries: a range with as many as a Delegate may not have is not handed over, and stays where it is

-- n entries
entries : ℕ → List Entry
entries zero = []
entries (suc n) = entries n ++ (record { key = n; value = [] } ∷ [])

-- A holds the most that cannot be handed over
full : World
full = record {
  hosts = A ∷ B ∷ [];
  state = at A (done (fresh A (A ∷ B ∷ []) A).owners (entries entries_limit) 1 (fresh A (A ∷ B ∷ []) A)) (begin A (B ∷ [])).state;
  sent = [];
  executed = [];
  made = λ a b. [];
  carried = λ a b. [];
}

full_stays : claims (run full (asks A (message 1 A (shard (Key 0) End B)) ∷ works A ∷ brings B 1 ∷ works B ∷ [])) 5 ≡ host A ∷ []
unfolding entries full digits worth list_of value_of
full_stays = refl

-- ---- the network: bytes in a host's name that the host has not handed out do not arrive, nor does what is another's

-- the range [0, 10) is on its way from A to B
abbrev pub given : World
given = run (begin A (B ∷ [])) (asks A (message 1 A (shard (Key 0) (Key 10) B)) ∷ works A ∷ [])

abbrev pretends : Event
pretends = record { host = A; move = receiving (stranger B (written (ack 1))) true; out = 9 }

pretends_nothing : claims (run given (pretends ∷ [])) 5 ≡ transfer A B 0 ∷ []
unfolding digits worth list_of value_of
pretends_nothing = refl

abbrev pub D : Address
D = 0x64 ∷ []

-- A's and D's transfers to B have the same number; B has received A's, and its Ack was handed out for A
abbrev pub crossing : World
crossing =
    run (begin A (B ∷ D ∷ []))
    (asks A (message 1 A (shard (Key 0) (Key 10) D))
    ∷ works A
    ∷ brings D 1
    ∷ works D
    ∷ asks D (message 1 D (shard (Key 0) (Key 10) B))
    ∷ works_mutely D
    ∷ asks A (message 2 A (shard (Key 20) (Key 30) B))
    ∷ works A
    ∷ brings B 5
    ∷ [])

-- the Ack is brought to D: it is not D's, and does not arrive
crossing_waits : (claims crossing 5 ≡ transfer D B 0 ∷ []) × (claims (run crossing (brings D 6 ∷ [])) 5 ≡ transfer D B 0 ∷ [])
unfolding digits worth list_of value_of
crossing_waits = (refl, refl)
