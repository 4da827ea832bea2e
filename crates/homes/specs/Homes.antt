-- Hosts in lent memory, each called through its entry points, in any order, over the same network as in `world`. What a call does is what its
-- contract says; nothing else is known of it.
-- Assumes nothing.
use Rattle.std.specs.Prelude.{◌≡◌, Bool, true, false, List, [], ◌++◌, ℕ, zero, suc, take, Result, Ok, Err}
use Rattle.std.proofs.Math.Option.{Option, none, some}
use Rattle.message.specs.Message.{Address}
use Rattle.protocol.specs.Address.{among, at}
use Rattle.protocol.specs.Delivery.{Packet}
use Rattle.hosts.specs.declared.State.{State}
use Rattle.hosts.specs.declared.Done.{Done}
use Rattle.hosts.specs.Memory.{Memory}
use Rattle.hosts.specs.Answers.{sends_of as processedSends}
use Rattle.incoming.specs.declared.Arrival.{Arrival}
use Rattle.incoming.specs.Answers.{sends_of as receivedSends}
use Rattle.receiving.specs.Answers.{AfterReceive}
use Rattle.processing.specs.Answers.{AfterProcess}
use Rattle.limits.specs.declared.NoRoom.{NoRoom}
use Rattle.repeating.specs.Answers.{AfterRepeat, packets}
use Rattle.rounds.specs.declared.Ended.{Ended}
use Rattle.rounds.specs.Answers.{sends_of as turnedSends}
use Rattle.turning.specs.Answers.{AfterTurn}
use Rattle.world.specs.World.{Sent}
use Rattle.world.specs.Events.{Source, arrival, optional, sent_by}

-- where a host lives: its memory, its numbers, and its room
pub record Home : Type 0 where
  pub memory : Memory
  pub numbers : State
  pub room : List ℕ

-- all of them, and every datagram that was ever handed out, in order
pub record Homes : Type 0 where
  pub home : Address → Home
  pub sent : List Sent

-- ---- what a call did: the home after it, and the datagrams that it wants to send

pub record Receives (h : Home) (a : Address) (s : List ℕ) (h' : Home) (sends : List Packet) : Type 0 where
  pub ack : List ℕ
  pub ack' : List ℕ
  pub answer : Arrival
  pub after : AfterReceive h.memory h.numbers h.room a s ack answer h'.memory h'.room ack'
  pub numbers_are : h'.numbers ≡ answer.state
  pub sends_are : sends ≡ receivedSends a ack' answer.outcome

pub record Processes (h h' : Home) (sends : List Packet) : Type 0 where
  pub answer : Done
  pub after : AfterProcess h.memory h.numbers h.room answer h'.memory
  pub numbers_are : h'.numbers ≡ answer.state
  pub room_is : h'.room ≡ h.room
  pub sends_are : sends ≡ processedSends h'.memory h'.numbers answer.outcome

-- the datagrams in the places that were written down, if they were
abbrev pub repeated_sends : Home → Result ℕ NoRoom → List ℕ → List Packet
repeated_sends h (Ok n) out = packets h.memory h.numbers n out
repeated_sends h (Err e) out = []

pub record Repeats (h h' : Home) (sends : List Packet) : Type 0 where
  pub out : List ℕ
  pub out' : List ℕ
  pub answer : Result ℕ NoRoom
  pub after : AfterRepeat h.memory.counts h.memory.places h.numbers out answer out'
  pub home_is : h' ≡ h
  pub sends_are : sends ≡ repeated_sends h answer out'

-- a datagram has arrived at the turn, or none has
abbrev pub Arrived : Option (Address × List ℕ) → (arrived : Bool) → Address → List ℕ → Type 0
Arrived none arrived a s = arrived ≡ false
Arrived (some p) arrived a s = (arrived ≡ true) × (a ≡ p.0) × (s ≡ p.1)

pub record Turns (h : Home) (p : Option (Address × List ℕ)) (h' : Home) (sends : List Packet) : Type 0 where
  pub arrived : Bool
  pub from : Address
  pub datagram : List ℕ
  pub arrived_is : Arrived p arrived from datagram
  pub ack : List ℕ
  pub out : List ℕ
  pub ack' : List ℕ
  pub out' : List ℕ
  pub answer : Ended
  pub after : AfterTurn h.memory h.numbers h.room arrived from datagram ack out answer h'.memory h'.room ack' out'
  pub numbers_are : h'.numbers ≡ answer.state
  pub sends_are : sends ≡ turnedSends h'.memory h'.numbers from ack' out' answer.outcome

-- ---- the calls

pub data Call : Type 0 where
  receive : Source → Call
  process : Call
  retransmit : Call
  turn : Option Source → Call

-- if nothing arrives, there is no call
abbrev pub ReceivesMaybe : Home → Option (Address × List ℕ) → Home → List Packet → Type 0
ReceivesMaybe h none h' sends = (h' ≡ h) × (sends ≡ [])
ReceivesMaybe h (some p) h' sends = Receives h p.0 p.1 h' sends

abbrev pub Does : (hosts : List Address) → List Sent → Address → Call → Home → Home → List Packet → Type 0
Does hosts sent x (receive p) h h' sends = ReceivesMaybe h (arrival hosts sent x p) h' sends
Does hosts sent x process h h' sends = Processes h h' sends
Does hosts sent x retransmit h h' sends = Repeats h h' sends
Does hosts sent x (turn p) h h' sends = Turns h (optional hosts sent x p) h' sends

-- one of the hosts is called, and the first n of the datagrams that it wants to send are handed out
pub record Calls (hosts : List Address) (R R' : Homes) : Type 0 where
  pub host : Address
  pub is_host : among host hosts ≡ true
  pub call : Call
  pub after : Home
  pub sends : List Packet
  pub does : Does hosts R.sent host call (R.home host) after sends
  pub out : ℕ
  pub homes_are : R'.home ≡ at host after R.home
  pub sent_is : R'.sent ≡ R.sent ++ sent_by host (take out sends)

-- n calls, one after the other
abbrev pub Path : (hosts : List Address) → ℕ → Homes → Homes → Type 0
Path hosts zero R Q = R ≡ Q
Path hosts (suc n) R Q = (P : Homes) × Calls hosts R P × Path hosts n P Q
