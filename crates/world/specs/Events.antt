-- What can happen: a host takes one of its steps, and its datagrams are handed out, or only some of them. The network brings any datagram that was
-- ever handed out to its addressee, any number of times, in any order, or never; it invents nothing in a host's name. From an address that is
-- no host's any bytes may come.
-- Assumes nothing.
use Rattle.std.specs.Prelude.{Bool, cond, ◌&&◌, not, List, [], ◌∷◌, ◌++◌, ℕ, zero, suc, length, take, ltb}
use Rattle.std.proofs.Math.Option.{Option, none, some}
use Rattle.limits.specs.Limits.{bytes_max}
use Rattle.message.specs.Message.{Address, Body, get, set, reply, redirect, shard, delegate}
use Rattle.decoding.specs.Decode.{same}
use Rattle.protocol.specs.Address.{among, at}
use Rattle.protocol.specs.Records.{in_range}
use Rattle.protocol.specs.State.{Host, Letter}
use Rattle.protocol.specs.Delivery.{Packet, Outcome, Request, Step, next, still, waits, full, invalid, elsewhere, taken, unreceived, again, future, arrived, stale, idle, stuck, replied, redirected, dropped, unnumbered, accepted, handed, resent}
use Rattle.protocol.specs.Receive.{receive}
use Rattle.protocol.specs.Process.{process}
use Rattle.protocol.specs.Retransmit.{retransmit}
use Rattle.protocol.specs.Turn.{turn}
use Rattle.world.specs.World.{Sent, Executed, World}

-- where a datagram that arrives comes from
pub data Source : Type 0 where
  -- it is the one with this place among all that were ever handed out
  network : ℕ → Source
  -- it is these bytes, from an address that is no host's
  stranger : Address → List ℕ → Source

-- The step that a host takes. `roomy` and `fits` are the answers of its memory: whether there is room for what a message may need, and whether the
-- table has a place for the value of a Set. The theorem holds for any answers
pub data Move : Type 0 where
  receiving : Source → (roomy : Bool) → Move
  processing : (fits : Bool) → Move
  retransmitting : Move
  turning : Option Source → (roomy fits : Bool) → Move

-- a host takes a step, and the first so many of the datagrams that it wants to send are handed out
pub record Event : Type 0 where
  pub host : Address
  pub move : Move
  pub out : ℕ

-- ---- what arrives

abbrev pub nth : {A : Type 0} → ℕ → List A → Option A
nth n [] = none
nth zero (x ∷ l) = some x
nth (suc n) (x ∷ l) = nth n l

-- a datagram is brought to its addressee only
abbrev pub brought : Address → Option Sent → Option (Address × List ℕ)
brought x none = none
brought x (some p) = cond (same p.to x) (some (p.from, p.bytes)) none

-- an address is a string shorter than document 01, section 3, has it
abbrev pub is_stranger : List Address → Address → Bool
is_stranger hosts a = not (among a hosts) && ltb (length a) bytes_max

-- what a source brings to x, if these are the hosts and that was handed out
abbrev pub arrival : List Address → List Sent → Address → Source → Option (Address × List ℕ)
arrival hosts sent x (network n) = brought x (nth n sent)
arrival hosts sent x (stranger a s) = cond (is_stranger hosts a) (some (a, s)) none

abbrev pub optional : List Address → List Sent → Address → Option Source → Option (Address × List ℕ)
optional hosts sent x none = none
optional hosts sent x (some s) = arrival hosts sent x s

-- ---- the host's step

abbrev pub on_arrival : Bool → Host → Option (Address × List ℕ) → Step
on_arrival roomy h none = still h waits
on_arrival roomy h (some p) = receive roomy h p.0 p.1

abbrev pub step_of : World → Address → Move → Step
step_of W x (receiving s roomy) = on_arrival roomy (W.state x) (arrival W.hosts W.sent x s)
step_of W x (processing fits) = process fits (W.state x)
step_of W x retransmitting = retransmit (W.state x)
step_of W x (turning s roomy fits) = turn roomy fits (W.state x) (optional W.hosts W.sent x s)

-- ---- what the step did, for the record

-- a transfer was made to a host, or one that came from a host was carried out, or neither
pub data Moved : Type 0 where
  made : Address → Body → Moved
  carried : Address → Body → Moved
  neither : Moved

-- by its outcome the step has given a transfer away, taken one, or neither
pub data Trace : Type 0 where
  gives : Trace
  takes : Trace
  passes : Trace

abbrev pub trace_of : Outcome → Trace
trace_of full = passes
trace_of invalid = passes
trace_of elsewhere = passes
trace_of taken = passes
trace_of unreceived = passes
trace_of again = passes
trace_of future = passes
trace_of arrived = passes
trace_of stale = passes
trace_of idle = passes
trace_of stuck = passes
trace_of replied = passes
trace_of redirected = passes
trace_of dropped = passes
trace_of unnumbered = passes
trace_of accepted = takes
trace_of handed = gives
trace_of resent = passes
trace_of waits = passes

-- the transfer that a Shard asks for: the range with its entries
abbrev pub asked : Host → Body → Moved
asked h (shard lo hi a) = made a (delegate lo hi (in_range lo hi h.records))
asked h (get k) = neither
asked h (set k v) = neither
asked h (reply k v) = neither
asked h (redirect k a) = neither
asked h (delegate lo hi es) = neither

-- the host h has handed a range over as the message in its room asked, or has accepted the transfer in its room
abbrev pub moved_by : Trace → Host → Option Letter → Moved
moved_by gives h none = neither
moved_by gives h (some l) = asked h l.body
moved_by takes h none = neither
moved_by takes h (some l) = carried l.from l.body
moved_by passes h r = neither

abbrev pub moved : Host → Outcome → Moved
moved h o = moved_by (trace_of o) h h.room

-- the list for that pair of hosts, with one more at its end
abbrev pub noted : (from to : Address) → Body → (Address → Address → List Body) → Address → Address → List Body
noted a b m f = at a (at b (f a b ++ (m ∷ [])) (f a)) f

abbrev pub made_after : Address → Moved → (Address → Address → List Body) → Address → Address → List Body
made_after x (made a m) f = noted x a m f
made_after x (carried a m) f = f
made_after x neither f = f

abbrev pub carried_after : Address → Moved → (Address → Address → List Body) → Address → Address → List Body
carried_after x (made a m) f = f
carried_after x (carried a m) f = noted a x m f
carried_after x neither f = f

-- the answer to a request gets the number that is next for its sender
abbrev pub executed_after : Address → Host → Option Request → List Executed → List Executed
executed_after x h none l = l
executed_after x h (some r) l = record { host = x; request = r; answer = next h r.from } ∷ l

abbrev pub sent_by : Address → List Packet → List Sent
sent_by x [] = []
sent_by x (p ∷ l) = record { from = x; to = p.to; bytes = p.bytes } ∷ sent_by x l

-- ---- the world after it

-- the host x took the step s, and the first n of its datagrams were handed out
abbrev pub after : World → Address → ℕ → Step → World
after W x n s = record {
  hosts = W.hosts;
  state = at x s.state W.state;
  sent = W.sent ++ sent_by x (take n s.sends);
  executed = executed_after x (W.state x) s.executed W.executed;
  made = made_after x (moved (W.state x) s.outcome) W.made;
  carried = carried_after x (moved (W.state x) s.outcome) W.carried;
}

-- only hosts take steps
abbrev pub step : World → Event → World
step W e = cond (among e.host W.hosts) (after W e.host e.out (step_of W e.host e.move)) W

-- one event after the other
abbrev pub run : World → List Event → World
run W [] = W
run W (e ∷ l) = run (step W e) l
