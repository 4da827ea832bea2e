-- What becomes of a turn, the count of turns, and the turn for sending again (document 01, section 5).
-- Assumes nothing.
use Rattle.std.specs.Prelude.{◌≡◌, Bool, true, false, List, [], ℕ, ◌+◌, ◌%◌, ◌≤◌, length, eqb}
use Rattle.message.specs.Message.{Address}
use Rattle.delivery.specs.Memory.{capacity}
use Rattle.protocol.specs.State.{Host}
use Rattle.protocol.specs.Delivery.{Packet, Step, Outcome, full, resent, waits}
use Rattle.protocol.specs.Turn.{round, resending, ended}
use Rattle.hosts.specs.declared.State.{State}
use Rattle.hosts.specs.Memory.{Memory, memory}
use Rattle.hosts.specs.Keeps.{Keeps}
use Rattle.hosts.specs.Answers.{outcome_of as processed, sends_of as processedSends}
use Rattle.incoming.specs.declared.Received.{Received}
use Rattle.incoming.specs.declared.Received.TheVariants.{Full, Invalid, Elsewhere, Taken, Unreceived, Again, Future, Arrived, Stale, Unfit as TooShort}
use Rattle.incoming.specs.Answers.{outcome_of as received, sends_of as receivedSends}
use Rattle.repeating.specs.Answers.{packets}
use Rattle.rounds.specs.declared.Turned.{Turned}
use Rattle.rounds.specs.declared.Turned.TheVariants.{Came, Did, Resent, Waits, Unfit}
use Rattle.rounds.specs.declared.Ended.{Ended}

-- receiving was refused: too little was lent for an Ack
abbrev pub unfit : Received → Bool
unfit Full = false
unfit Invalid = false
unfit Elsewhere = false
unfit Taken = false
unfit Unreceived = false
unfit Again = false
unfit Future = false
unfit Arrived = false
unfit Stale = false
unfit TooShort = true

-- the outcome by the definition's name. (Unfit is none of them: the step was not taken)
abbrev pub outcome_of : Turned → Outcome
outcome_of (Came r) = received r
outcome_of (Did r) = processed r
outcome_of (Resent n) = resent
outcome_of Waits = waits
outcome_of Unfit = full

-- the step was not taken
abbrev pub refuses : Turned → Bool
refuses (Came r) = unfit r
refuses (Did r) = false
refuses (Resent n) = false
refuses Waits = false
refuses Unfit = true

-- the datagrams that are handed out: an Ack, the one in a place, or those in the places that were written down
abbrev pub sends_of : Memory → State → Address → (ack out : List ℕ) → Turned → List Packet
sends_of m k a ack out (Came r) = receivedSends a ack r
sends_of m k a ack out (Did r) = processedSends m k r
sends_of m k a ack out (Resent n) = packets m k n out
sends_of m k a ack out Waits = []
sends_of m k a ack out Unfit = []

pub record Turns (m : Memory) (k : State) (room : List ℕ) (a : Address) (ack out : List ℕ) (r : Turned) (s : Step) : Type 0 where
  pub keeps : Keeps m k room s.state
  pub outcome : outcome_of r ≡ s.outcome
  pub sends : sends_of m k a ack out r ≡ s.sends

-- the host's numbers with that count of turns
abbrev pub counted : ℕ → State → State
counted n k = record {
  me = k.me;
  hosts = k.hosts;
  peers = k.peers;
  width = k.width;
  size = k.size;
  bounds = k.bounds;
  entries = k.entries;
  len = k.len;
  from = k.from;
  transfers = k.transfers;
  turns = n;
}

-- .. and with its turn over
abbrev pub over_of : State → State
over_of k = counted ((k.turns + 1) % round) k

-- too little was lent: nothing is done
abbrev pub refusal : State → Ended
refusal k = record { state = k; outcome = Unfit; place = 0 }

-- a turn for sending again. It is refused only if too little was lent for the places, and then nothing has changed
pub record AfterAgain (counts places : List ℕ) (k : State) (out : List ℕ) (r : Ended) (out' : List ℕ) : Type 0 where
  pub is : (lows owners keys slots lens values name_lens names mail room : List ℕ) (h : Host)
      → Keeps (memory lows owners keys slots lens values name_lens names counts places mail) k room h → capacity places ≤ length out → (a : Address) (ack : List ℕ)
      → Turns (memory lows owners keys slots lens values name_lens names counts places mail) r.state room a ack out' r.outcome
      (ended (resending (eqb (h.turns + 1) round) h))
  pub fit : capacity places ≤ length out → refuses r.outcome ≡ false
  pub refused : refuses r.outcome ≡ true → (r ≡ refusal k) × (out' ≡ out)
