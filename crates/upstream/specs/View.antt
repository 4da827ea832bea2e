-- How a host, a message and a datagram that is handed out correspond to upstream's.
-- Assumes nothing.
use Rattle.std.specs.Prelude.{◌≡◌, Bool, true, cond, not, List, [], ◌∷◌, ◌++◌, ℕ, suc, eqb}
use Rattle.std.proofs.Math.Option.{Option, none, some}
use Rattle.message.specs.Message.{Address, Body, Datagram}
use Rattle.message.specs.Message.{get as getBody, set as setBody, reply as replyBody, redirect as redirectBody, shard as shardBody, delegate as delegateBody, message as messageOf, ack as ack_of}
use Rattle.message.specs.Table.{written}
use Rattle.decoding.specs.Decode.{read}
use Rattle.protocol.specs.Records.{look}
use Rattle.protocol.specs.Owners.{owner_of}
use Rattle.protocol.specs.State.{Host, Letter}
use Rattle.protocol.specs.Delivery.{Packet as Handed, Act, got, stored, Request}
use Rattle.upstream.specs.Messages.{Message, get_request, set_request, reply, redirect, shard, delegate, SingleMessage, message, ack, invalid, Packet}
use Rattle.upstream.specs.Delivery.{AckState, SingleDelivery}
use Rattle.upstream.specs.Hosts.{AppRequest, app_get, app_set, State, Io, sends}

-- ---- messages

abbrev pub view_body : Body → Message
view_body (getBody k) = get_request k
view_body (setBody k v) = set_request k v
view_body (replyBody k v) = reply k v
view_body (redirectBody k a) = redirect k a
view_body (shardBody lo hi a) = shard (record { lo = lo; hi = hi }) a
view_body (delegateBody lo hi es) = delegate (record { lo = lo; hi = hi }) (λ k. look k es)

abbrev pub view_datagram : Datagram → SingleMessage
view_datagram (messageOf n a b) = message n a (view_body b)
view_datagram (ack_of n) = ack n

-- bytes that are no message are upstream's Invalid
abbrev pub view_read : Option Datagram → SingleMessage
view_read none = invalid
view_read (some d) = view_datagram d

-- the packet that arrives at the host me: bytes from an address
abbrev pub arrives : (me from : Address) → List ℕ → Packet
arrives me from s = record { dst = me; src = from; msg = view_read (read s) }

-- ---- what is handed out

-- the datagram p is upstream's packet q, from the host me
abbrev pub Carries : Address → Handed → Packet → Type 0
Carries me p q = (q.dst ≡ p.to) × (q.src ≡ me) × ((d : Datagram) × (p.bytes ≡ written d) × (q.msg ≡ view_datagram d))

abbrev pub CarriesAll : Address → List Handed → List Packet → Type 0
CarriesAll me [] [] = Unit
CarriesAll me [] (q ∷ m) = ⊥
CarriesAll me (p ∷ l) [] = ⊥
CarriesAll me (p ∷ l) (q ∷ m) = Carries me p q × CarriesAll me l m

abbrev pub sending : List Packet → List Io
sending [] = []
sending (p ∷ l) = sends p ∷ sending l

-- ---- the host

-- a last number: none was kept before the first message
abbrev pub last_seen : ℕ → Option ℕ
last_seen n = cond (eqb n 0) none (some n)

abbrev pub messages_from : ℕ → Address → List Body → List SingleMessage
messages_from n a [] = []
messages_from n a (b ∷ l) = message n a (view_body b) ∷ messages_from (suc n) a l

-- something was sent to the peer, or it has acknowledged something
abbrev pub heard_of : ℕ → List Body → Bool
heard_of n [] = not (eqb n 0)
heard_of n (b ∷ l) = true

abbrev pub view_ack : Host → Address → Option AckState
view_ack h a =
    cond (heard_of (h.acknowledged a) (h.waiting a))
    (some (record { acked = h.acknowledged a; unacked = messages_from (suc (h.acknowledged a)) a (h.waiting a) })) none

abbrev pub view_delivery : Host → SingleDelivery
view_delivery h = record { received = λ a. last_seen (h.received a); sends = view_ack h }

abbrev pub view_room : Address → Option Letter → Option Packet
view_room me none = none
view_room me (some l) = some (record { dst = me; src = l.from; msg = message l.number me (view_body l.body) })

-- the host with the requests that it has carried out so far
abbrev pub view : List AppRequest → Host → State
view past h = record {
  constants = record { root = h.owners.first; hosts = h.hosts; me = h.me };
  delegation = λ k. some (owner_of h.owners k);
  table = λ k. look k h.records;
  sd = view_delivery h;
  received = view_room h.me h.room;
  delegations = h.transfers;
  requests = past;
}

-- .. and one more
abbrev pub view_act : ℕ → Act → AppRequest
view_act n (got k v) = app_get n k
view_act n (stored k v) = app_set n k v

abbrev pub recorded : List AppRequest → Option Request → List AppRequest
recorded past none = past
recorded past (some r) = past ++ (view_act r.number r.act ∷ [])
