-- Upstream's host, host_protocol_t: the relations between a state, the next, and what was received and sent. Where upstream fills fields from the new
-- state itself, so does this; where it lets a flag be chosen, any flag will do.
-- Assumes nothing.
use Rattle.std.specs.Prelude.{◌≡◌, cond, List, [], ◌∷◌, ◌++◌, ◌⊎◌, ℕ, ◌+◌, ◌-◌, ◌≤◌, ◌<◌, length}
use Rattle.std.proofs.Math.Option.{Option, none, some}
use Rattle.limits.specs.Limits.{bytes_max}
use Rattle.keys.specs.Bound.{holds}
use Rattle.message.specs.Message.{Address}
use Rattle.protocol.specs.Records.{Value}
use Rattle.world.specs.Single.{Among}
use Rattle.upstream.specs.Messages.{Range, Contains, IsEmpty, Hashtable, Len, max_hashtable_size, ValidValue, ValidOptional, max_delegations, Message, get_request, set_request, reply, redirect, shard, delegate, SingleMessage, message, ack, invalid, Packet, Packets, Empty, Only, SameSet}
use Rattle.upstream.specs.Delivery.{SingleDelivery, fresh, New, Receive, SendSingle, UnAcked}

-- AppRequest: it has no sender and no answer
pub data AppRequest : Type 0 where
  app_get : (seqno : ℕ) → (key : ℕ) → AppRequest
  app_set : (seqno : ℕ) → (key : ℕ) → Option Value → AppRequest

pub record Constants : Type 0 where
  pub root : Address
  pub hosts : List Address
  pub me : Address

abbrev pub Map : Type 0
Map = ℕ → Option Address

pub record State : Type 0 where
  pub constants : Constants
  pub delegation : Map
  pub table : Hashtable
  pub sd : SingleDelivery
  pub received : Option Packet
  pub delegations : ℕ
  pub requests : List AppRequest

-- the map gives every key a host
abbrev pub Complete : State → Type 0
Complete s = (k : ℕ) → (a : Address) × (s.delegation k ≡ some a)

-- valid_physical_address
abbrev pub ValidAddress : Address → Type 0
ValidAddress a = length a < bytes_max

-- ---- tables and maps

-- valid_hashtable
abbrev pub ValidHashtable : Hashtable → Type 0
ValidHashtable h = ((n : ℕ) × Len h n × (n < max_hashtable_size)) × ((k : ℕ) (v : Value) → h k ≡ some v → ValidValue v)

-- the table u where it says something, else h
abbrev pub preferred : Option Value → Option Value → Option Value
preferred none w = w
preferred (some v) w = some v

-- bulk_update_hashtable: in the range what u says, outside it what u says before what h says
abbrev pub bulk_update : Hashtable → Range → Hashtable → Hashtable
bulk_update h r u k = preferred (u k) (cond (holds r.lo r.hi k) none (h k))

abbrev pub bulk_remove : Hashtable → Range → Hashtable
bulk_remove h r k = cond (holds r.lo r.hi k) none (h k)

-- extract_range
abbrev pub extract : Hashtable → Range → Hashtable
extract h r k = cond (holds r.lo r.hi k) (h k) none

-- AbstractDelegationMap::update
abbrev pub update : Map → Range → Address → Map
update m r a k = cond (holds r.lo r.hi k) (some a) (m k)

-- delegate_for_key_range_is_host
abbrev pub AllOf : Map → Range → Address → Type 0
AllOf m r a = (k : ℕ) → Contains r k → m k ≡ some a

-- ---- receiving

-- okay_to_ignore_packets, an opaque definition whose body is `true`
abbrev pub OkayToIgnore : Type 0
OkayToIgnore = Unit

-- the state with these two fields, and all else from the new state itself
abbrev pub nothing_else : State → State
nothing_else post = record {
  constants = post.constants;
  delegation = post.delegation;
  table = post.table;
  sd = post.sd;
  received = post.received;
  delegations = post.delegations;
  requests = post.requests;
}

pub record Takes (pre post : State) (p : Packet) (out : Packets) (a : Packet) : Type 0 where
  pub free : pre.received ≡ none
  pub delivery : Receive pre.sd post.sd p a out
  pub new : New pre.sd p.src p.msg → post.received ≡ some p
  pub old : (New pre.sd p.src p.msg → ⊥) → post.received ≡ none
  pub else : post ≡ nothing_else post

pub record Ignores (pre post : State) (out : Packets) : Type 0 where
  pub may : ((p : Packet) × (pre.received ≡ some p)) ⊎ OkayToIgnore
  pub same : post ≡ pre
  pub nothing : Empty out

-- receive_packet
abbrev pub ReceivePacket : (pre post : State) → Packet → Packets → Packet → Type 0
ReceivePacket pre post p out a = Takes pre post p out a ⊎ Ignores pre post out

-- what a host did on the network, in order
pub data Io : Type 0 where
  receives : Packet → Io
  sends : Packet → Io
  times_out : Io
  reads_clock : Io

abbrev pub sent_list : List Io → List Packet
sent_list [] = []
sent_list (sends p ∷ l) = p ∷ sent_list l
sent_list (receives p ∷ l) = sent_list l
sent_list (times_out ∷ l) = sent_list l
sent_list (reads_clock ∷ l) = sent_list l

-- extract_packets_from_abstract_ios: as a set
abbrev pub sent : List Io → Packets
sent l p = Among p (sent_list l)

abbrev pub AllSends : List Io → Type 0
AllSends [] = Unit
AllSends (sends p ∷ l) = AllSends l
AllSends (receives p ∷ l) = ⊥
AllSends (times_out ∷ l) = ⊥
AllSends (reads_clock ∷ l) = ⊥

-- receive_packet_next
abbrev pub ReceivePacketNext : (pre post : State) → List Io → Type 0
ReceivePacketNext pre post [] = ⊥
ReceivePacketNext pre post (times_out ∷ l) = (post ≡ pre) × (l ≡ [])
ReceivePacketNext pre post (receives p ∷ l) = Complete pre × AllSends l × ((a : Packet) × ReceivePacket pre post p (sent (receives p ∷ l)) a)
ReceivePacketNext pre post (sends p ∷ l) = ⊥
ReceivePacketNext pre post (reads_clock ∷ l) = ⊥

-- ---- processing

-- { received_packet: post.received_packet, ..pre }
abbrev pub emptied : (pre post : State) → State
emptied pre post = record {
  constants = pre.constants;
  delegation = pre.delegation;
  table = pre.table;
  sd = pre.sd;
  received = post.received;
  delegations = pre.delegations;
  requests = pre.requests;
}

-- { received_packet: None, ..pre }
abbrev pub freed : State → State
freed pre = record {
  constants = pre.constants;
  delegation = pre.delegation;
  table = pre.table;
  sd = pre.sd;
  received = none;
  delegations = pre.delegations;
  requests = pre.requests;
}

-- a request is dropped
abbrev pub Unanswered : (pre post : State) → Packets → Type 0
Unanswered pre post out = (post ≡ emptied pre post) × Empty out

-- the message m goes to src as sm
pub record Answers (pre post : State) (src : Address) (m : Message) (sm : SingleMessage) (n : ℕ) (b : Message) (out : Packets) : Type 0 where
  pub delivery : SendSingle pre.sd post.sd m src (some sm)
  pub to : sm ≡ message n src b
  pub only : Only (record { dst = src; src = pre.constants.me; msg = sm }) out

-- next_get_request, with its free choice: nothing says when a request may go unanswered
pub record GetAnswered (pre post : State) (src : Address) (seqno k : ℕ) (out : Packets) : Type 0 where
  pub sm : SingleMessage
  pub m : Message
  pub n : ℕ
  pub b : Message
  pub mine : pre.delegation k ≡ some pre.constants.me → (m ≡ reply k (pre.table k)) × (post.requests ≡ pre.requests ++ (app_get seqno k ∷ []))
  pub other : (a : Address) → pre.delegation k ≡ some a → (a ≡ pre.constants.me → ⊥) → (m ≡ redirect k a) × (post.requests ≡ pre.requests)
  pub answers : Answers pre post src m sm n b out

abbrev pub NextGet : (pre post : State) → Address → ℕ → ℕ → Packets → Type 0
NextGet pre post src seqno k out =
    (post.delegation ≡ pre.delegation) × (post.table ≡ pre.table) × (post.delegations ≡ pre.delegations)
    × (GetAnswered pre post src seqno k out ⊎ Unanswered pre post out)

-- next_set_request_complete. (The table after pre.h.insert(k, v) or pre.h.remove(k) is told key by key)
pub record SetAnswered (pre post : State) (src : Address) (seqno k : ℕ) (v : Option Value) (out : Packets) : Type 0 where
  pub valid : ValidOptional v
  pub sm : SingleMessage
  pub m : Message
  pub n : ℕ
  pub b : Message
  pub mine : pre.delegation k ≡ some pre.constants.me
      → (post.table k ≡ v) × ((j : ℕ) → (j ≡ k → ⊥) → post.table j ≡ pre.table j) × (m ≡ reply k v)
      × (post.requests ≡ pre.requests ++ (app_set seqno k v ∷ []))
  pub other : (a : Address) → pre.delegation k ≡ some a → (a ≡ pre.constants.me → ⊥)
      → (post.table ≡ pre.table) × (m ≡ redirect k a) × (post.requests ≡ pre.requests)
  pub answers : Answers pre post src m sm n b out

abbrev pub NextSet : (pre post : State) → Address → ℕ → ℕ → Option Value → Packets → Type 0
NextSet pre post src seqno k v out =
    (SetAnswered pre post src seqno k v out ⊎ Unanswered pre post out) × (post.delegation ≡ pre.delegation)
    × (post.delegations ≡ pre.delegations)

-- next_delegate: the sender is on the list, or it is not
pub record NextDelegate (pre post : State) (src : Address) (r : Range) (u : Hashtable) (out : Packets) : Type 0 where
  pub from_host : Among src pre.constants.hosts
      → (post.delegation ≡ update pre.delegation r pre.constants.me) × (post.table ≡ bulk_update pre.table r u)
      × (post.delegations ≡ pre.delegations + 1)
  pub from_other : (Among src pre.constants.hosts → ⊥)
      → (post.delegation ≡ pre.delegation) × (post.table ≡ pre.table) × (post.delegations ≡ pre.delegations)
  pub nothing_sent : post.sd.sends ≡ pre.sd.sends
  pub nothing_received : post.sd.received ≡ pre.sd.received
  pub nothing_out : Empty out
  pub no_request : post.requests ≡ pre.requests

-- next_shard. (Whether it is sent is settled by the numbers, through SendSingle)
abbrev pub ShardSent : Option SingleMessage → (pre post : State) → Range → Address → Packets → Type 0
ShardSent none pre post r a out = Empty out × (post.delegation ≡ pre.delegation) × (post.table ≡ pre.table)
ShardSent (some sm) pre post r a out =
    Only (record { dst = a; src = pre.constants.me; msg = sm }) out × (post.delegation ≡ update pre.delegation r a)
    × (post.table ≡ bulk_remove pre.table r)

pub record NextShard (pre post : State) (r : Range) (a : Address) (sm : Option SingleMessage) (out : Packets) : Type 0 where
  pub other : a ≡ pre.constants.me → ⊥
  pub is_host : Among a pre.constants.hosts
  pub all_mine : AllOf pre.delegation r pre.constants.me
  pub delivery : SendSingle pre.sd post.sd (delegate r (extract pre.table r)) a sm
  pub constants : pre.constants ≡ post.constants
  pub counted : post.delegations ≡ pre.delegations + 1
  pub no_request : post.requests ≡ pre.requests
  pub sent : ShardSent sm pre post r a out

-- next_shard_wrapper_must_reject
abbrev pub MustReject : State → Range → Address → Type 0
MustReject pre r a =
    (a ≡ pre.constants.me) ⊎ ((ValidAddress a → ⊥) ⊎ (IsEmpty r ⊎ ((Among a pre.constants.hosts → ⊥) ⊎ ((AllOf pre.delegation r pre.constants.me → ⊥)
    ⊎ ((n : ℕ) × Len (extract pre.table r) n × (max_hashtable_size ≤ n))))))

-- next_shard_wrapper
pub record NextShardWrapper (pre post : State) (r : Range) (a : Address) (out : Packets) : Type 0 where
  pub rejected : MustReject pre r a → Unanswered pre post out
  pub handed : (MustReject pre r a → ⊥) → (sm : Option SingleMessage) × NextShard pre post r a sm out

-- what processing a message does, by its kind
abbrev pub Processed : (pre post : State) → Address → ℕ → Message → Packets → Type 0
Processed pre post src seqno (get_request k) out = NextGet pre post src seqno k out
Processed pre post src seqno (set_request k v) out = NextSet pre post src seqno k v out
Processed pre post src seqno (delegate r u) out = NextDelegate pre post src r u out
Processed pre post src seqno (shard r a) out = NextShardWrapper pre post r a out
Processed pre post src seqno (reply k v) out = Unanswered pre post out
Processed pre post src seqno (redirect k a) out = Unanswered pre post out

-- should_process_received_message
abbrev pub ShouldProcess : State → Message → Type 0
ShouldProcess pre (get_request k) = Unit
ShouldProcess pre (set_request k v) = Unit
ShouldProcess pre (reply k v) = Unit
ShouldProcess pre (redirect k a) = Unit
ShouldProcess pre (shard r a) = pre.delegations < max_delegations - 2
ShouldProcess pre (delegate r u) = pre.delegations < max_delegations - 2

abbrev pub Stays : (pre post : State) → Packets → Type 0
Stays pre post out = (post ≡ pre) × Empty out

-- process_message, for what is in the room. (What is no message is never processed)
abbrev pub ProcessMessage : SingleMessage → (pre post : State) → Address → Packets → Type 0
ProcessMessage (message s d m) pre post src out =
    (ShouldProcess pre m → Processed pre post src s m out × (post.received ≡ none)) × ((ShouldProcess pre m → ⊥) → Stays pre post out)
ProcessMessage (ack n) pre post src out = Stays pre post out
ProcessMessage invalid pre post src out = Stays pre post out

abbrev pub ProcessRoom : Option Packet → (pre post : State) → Packets → Type 0
ProcessRoom none pre post out = Stays pre post out
ProcessRoom (some p) pre post out = ProcessMessage p.msg pre post p.src out

-- process_received_packet_next
abbrev pub ProcessNext : (pre post : State) → List Io → Type 0
ProcessNext pre post l = Complete pre × AllSends l × ProcessRoom pre.received pre post (sent l)

-- ignore_nonsensical_delegation_packet
abbrev pub IgnoresDelegate : SingleMessage → (pre post : State) → Type 0
IgnoresDelegate (message s d (delegate r u)) pre post =
    ((ValidHashtable u × (IsEmpty r → ⊥) × ValidAddress d) → ⊥)
    × (ShouldProcess pre (delegate r u) → post ≡ freed pre)
    × ((ShouldProcess pre (delegate r u) → ⊥) → post ≡ pre)
IgnoresDelegate (message s d (get_request k)) pre post = ⊥
IgnoresDelegate (message s d (set_request k v)) pre post = ⊥
IgnoresDelegate (message s d (reply k v)) pre post = ⊥
IgnoresDelegate (message s d (redirect k a)) pre post = ⊥
IgnoresDelegate (message s d (shard r a)) pre post = ⊥
IgnoresDelegate (ack n) pre post = ⊥
IgnoresDelegate invalid pre post = ⊥

abbrev pub IgnoresNonsense : (pre post : State) → List Io → Type 0
IgnoresNonsense pre post l = (l ≡ []) × ((p : Packet) × (pre.received ≡ some p) × IgnoresDelegate p.msg pre post)

-- ---- sending again

-- spontaneously_retransmit_next: all that waits, or nothing at all
abbrev pub RetransmitNext : (pre post : State) → List Io → Type 0
RetransmitNext pre post l =
    Complete pre × ((AllSends l × SameSet (sent l) (UnAcked pre.sd pre.constants.me) × (post ≡ pre)) ⊎ ((post ≡ pre) × (l ≡ [])))

-- ---- the step

pub data Step : Type 0 where
  receive_packet : Step
  process_packet : Step
  retransmit_all : Step
  stutter : Step
  ignore_unparseable : Step
  ignore_nonsense : Step

-- ignore_unparseable_packet
abbrev pub IgnoresUnparseable : (pre post : State) → List Io → Type 0
IgnoresUnparseable pre post l = (p : Packet) × (l ≡ receives p ∷ []) × (p.msg ≡ invalid) × (pre ≡ post)

abbrev pub NextStep : Step → (pre post : State) → List Io → Type 0
NextStep receive_packet pre post l = ReceivePacketNext pre post l
NextStep process_packet pre post l = ProcessNext pre post l
NextStep retransmit_all pre post l = RetransmitNext pre post l
NextStep stutter pre post l = (pre ≡ post) × (l ≡ [])
NextStep ignore_unparseable pre post l = IgnoresUnparseable pre post l
NextStep ignore_nonsense pre post l = IgnoresNonsense pre post l

abbrev pub NoInvalidSends : List Io → Type 0
NoInvalidSends l = (p : Packet) → Among p (sent_list l) → p.msg ≡ invalid → ⊥

-- next
pub record Next (pre post : State) (l : List Io) : Type 0 where
  pub complete : Complete pre
  pub constants : pre.constants ≡ post.constants
  pub step : Step
  pub is : NextStep step pre post l
  pub sound : NoInvalidSends l

-- ---- starting

-- init, for a list of arguments
abbrev pub AllAddresses : List Address → Type 0
AllAddresses [] = Unit
AllAddresses (a ∷ l) = ValidAddress a × AllAddresses l

abbrev pub Init : State → Address → List Address → Type 0
Init s me [] = ⊥
Init s me (a ∷ l) =
    AllAddresses (a ∷ l) × (s ≡ record {
      constants = record { root = a; hosts = a ∷ l; me = me };
      delegation = λ k. some a;
      table = λ k. none;
      sd = fresh;
      received = none;
      delegations = 1;
      requests = [];
    })
