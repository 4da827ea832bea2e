-- Upstream's delivery, single_delivery_t: messages delivered once, as it says them. `ReceiveAck` leaves what was received free, as there.
-- Assumes nothing.
use Rattle.std.specs.Prelude.{◌≡◌, cond, List, [], ◌∷◌, ◌++◌, ℕ, ◌+◌, ◌≤◌, ◌<◌, length, leb}
use Rattle.std.proofs.Math.Option.{Option, none, some}
use Rattle.message.specs.Message.{Address}
use Rattle.protocol.specs.Address.{at}
use Rattle.world.specs.Single.{Among}
use Rattle.upstream.specs.Messages.{Message, SingleMessage, message, ack, invalid, Packet, Packets, Empty, Only, max_seqno}

-- a partial map with v at a
abbrev pub insert : {A : Type 0} → Address → A → (Address → Option A) → Address → Option A
insert a v m = at a (some v) m

-- ---- what is known of a peer

abbrev pub last_of : Option ℕ → ℕ
last_of none = 0
last_of (some n) = n

pub record AckState : Type 0 where
  pub acked : ℕ
  pub unacked : List SingleMessage

abbrev pub ack_of : Option AckState → AckState
ack_of none = record { acked = 0; unacked = [] }
ack_of (some s) = s

pub record SingleDelivery : Type 0 where
  pub received : Address → Option ℕ
  pub sends : Address → Option AckState

abbrev pub fresh : SingleDelivery
fresh = record { received = λ a. none; sends = λ a. none }

-- truncate_un_ack_list
abbrev pub truncate : List SingleMessage → ℕ → List SingleMessage
truncate [] n = []
truncate (message s d m ∷ l) n = cond (leb s n) (truncate l n) (message s d m ∷ l)
truncate (ack k ∷ l) n = ack k ∷ l
truncate (invalid ∷ l) n = invalid ∷ l

-- ---- receiving

-- new_single_message
abbrev pub New : SingleDelivery → Address → SingleMessage → Type 0
New sd src (message s d m) = s ≡ last_of (sd.received src) + 1
New sd src (ack n) = ⊥
New sd src invalid = ⊥

-- should_ack_single_message
abbrev pub ShouldAck : SingleDelivery → Address → SingleMessage → Type 0
ShouldAck sd src (message s d m) = s ≤ last_of (sd.received src)
ShouldAck sd src (ack n) = ⊥
ShouldAck sd src invalid = ⊥

-- receive_ack: what was received is free in the new state
pub record ReceiveAck (pre post : SingleDelivery) (src : Address) (n : ℕ) (acks : Packets) : Type 0 where
  pub none_sent : Empty acks
  pub more : (ack_of (pre.sends src)).acked < n
      → post.sends ≡ insert src (record { acked = n; unacked = truncate (ack_of (pre.sends src)).unacked n }) pre.sends
  pub stale : ((ack_of (pre.sends src)).acked < n → ⊥) → post ≡ pre

-- receive_real_packet
pub record ReceiveReal (pre post : SingleDelivery) (p : Packet) : Type 0 where
  pub new : New pre p.src p.msg
      → post ≡ record { received = insert p.src (last_of (pre.received p.src) + 1) pre.received; sends = pre.sends }
  pub old : (New pre p.src p.msg → ⊥) → post ≡ pre

-- send_ack, for the message with the number s
pub record SendAck (p : Packet) (s : ℕ) (a : Packet) (acks : Packets) : Type 0 where
  pub number : a.msg ≡ ack s
  pub from : a.src ≡ p.dst
  pub to : a.dst ≡ p.src
  pub only : Only a acks

-- maybe_ack_packet
pub record MaybeAck (sd : SingleDelivery) (p : Packet) (s : ℕ) (a : Packet) (acks : Packets) : Type 0 where
  pub should : ShouldAck sd p.src p.msg → SendAck p s a acks
  pub should_not : (ShouldAck sd p.src p.msg → ⊥) → Empty acks

-- receive, by what the packet's message is
abbrev pub ReceiveAs : SingleMessage → (pre post : SingleDelivery) → Packet → (a : Packet) → Packets → Type 0
ReceiveAs (ack n) pre post p a acks = ReceiveAck pre post p.src n acks
ReceiveAs (message s d m) pre post p a acks = ReceiveReal pre post p × MaybeAck post p s a acks
ReceiveAs invalid pre post p a acks = (post ≡ pre) × Empty acks

abbrev pub Receive : (pre post : SingleDelivery) → Packet → (a : Packet) → Packets → Type 0
Receive pre post p a acks = ReceiveAs p.msg pre post p a acks

-- ---- sending

abbrev pub new_seqno : SingleDelivery → Address → ℕ
new_seqno sd dst = (ack_of (sd.sends dst)).acked + length (ack_of (sd.sends dst)).unacked + 1

-- send_single_message
pub record SendSingle (pre post : SingleDelivery) (m : Message) (dst : Address) (sm : Option SingleMessage) : Type 0 where
  pub too_many : max_seqno < new_seqno pre dst → (post ≡ pre) × (sm ≡ none)
  pub sent : new_seqno pre dst ≤ max_seqno
      → (sm ≡ some (message (new_seqno pre dst) dst m))
      × (post ≡ record {
        received = pre.received;
        sends = insert dst
            (record { acked = (ack_of (pre.sends dst)).acked; unacked = (ack_of (pre.sends dst)).unacked ++ (message (new_seqno pre dst) dst m ∷ []) })
            pre.sends;
      })

-- ---- sending again

-- un_acked_messages: the messages that wait, of any destination, as a set
abbrev pub UnAcked : SingleDelivery → Address → Packets
UnAcked sd src p =
    (p.src ≡ src)
    × ((dst : Address) × (s : AckState) × (n : ℕ) × (d : Address) × (m : Message) × (sd.sends dst ≡ some s) × Among (message n d m) s.unacked
    × (p.msg ≡ message n d m) × (p.dst ≡ d))
