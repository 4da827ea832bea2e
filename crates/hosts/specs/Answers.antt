-- What the host's steps over lent memory answer, against the definition's steps.
-- Assumes nothing.
use Rattle.std.specs.Prelude.{◌≡◌, Bool, true, false, List, [], ◌∷◌, ℕ, suc, ◌<◌}
use Rattle.protocol.specs.State.{Host, Letter}
use Rattle.protocol.specs.Delivery.{Packet, Step, Outcome, idle, stuck, replied, redirected, dropped, unnumbered, accepted, handed}
use Rattle.hosts.specs.declared.State.{State}
use Rattle.hosts.specs.declared.Processed.{Processed}
use Rattle.hosts.specs.declared.Processed.TheVariants.{Idle, Stuck, Replied, Redirected, Dropped, Unnumbered, Accepted, Handed}
use Rattle.hosts.specs.declared.Done.{Done}
use Rattle.hosts.specs.Memory.{Memory, name_at, packet_at}
use Rattle.hosts.specs.Keeps.{Core}

-- the outcome of processing by the definition's name, and the datagrams that are handed out
abbrev pub outcome_of : Processed → Outcome
outcome_of Idle = idle
outcome_of Stuck = stuck
outcome_of (Replied p) = replied
outcome_of (Redirected p) = redirected
outcome_of Dropped = dropped
outcome_of Unnumbered = unnumbered
outcome_of Accepted = accepted
outcome_of (Handed p) = handed

abbrev pub sends_of : Memory → State → Processed → List Packet
sends_of m k Idle = []
sends_of m k Stuck = []
sends_of m k (Replied p) = packet_at m k.width k.size p ∷ []
sends_of m k (Redirected p) = packet_at m k.width k.size p ∷ []
sends_of m k Dropped = []
sends_of m k Unnumbered = []
sends_of m k Accepted = []
sends_of m k (Handed p) = packet_at m k.width k.size p ∷ []

-- the room is free
abbrev pub emptied : State → State
emptied k = record k { len = 0 }

-- other entries
abbrev pub filled : State → ℕ → State
filled k entries = record k { entries = entries }

-- the room is free, and a transfer was made or taken: other bounds and entries, and one more in the count
abbrev pub moved : State → (bounds entries : ℕ) → State
moved k bounds entries = record k { bounds = bounds; entries = entries; len = 0; transfers = suc k.transfers }

-- memory keeps the host after the definition's step, and the outcome and the datagrams are the definition's
pub record Does (m : Memory) (k : State) (r : Processed) (s : Step) : Type 0 where
  pub core : Core m k s.state
  pub outcome : outcome_of r ≡ s.outcome
  pub sends : sends_of m k r ≡ s.sends

-- the message was sent, and the outcome is o; it is always sent where memory keeps a host
abbrev pub sent_or : State → Bool → Processed → Done
sent_or k true o = record { state = emptied k; outcome = o }
sent_or k false o = record { state = emptied k; outcome = Unnumbered }

-- the message is dropped
abbrev pub dropped_of : State → Done
dropped_of k = record { state = emptied k; outcome = Dropped }

-- the message in the room is from the letter's sender
pub record Heard (m : Memory) (k : State) (l : Letter) : Type 0 where
  pub from_in : k.from < k.peers
  pub from_is : name_at m.name_lens m.names k.width k.from ≡ l.from

-- a row of document 01's table: if what it needs is there, the step is the definition's, and the room is free
pub record AfterRow (m : Memory) (k : State) (needs : Host → Letter → Type 0) (row : Host → Letter → Step) (r : Done) (m' : Memory) : Type 0 where
  pub freed : r.state.len ≡ 0
  pub is : (h : Host) (l : Letter) → Core m k h → Heard m k l → needs h l → Does m' r.state r.outcome (row h l)
