-- The turns that the three kinds of step take: receive, process, retransmit, and again from the front (document 01, section 5). Retransmit acts
-- on every so many of its turns only.
-- Assumes nothing.
use Rattle.std.specs.Prelude.{Bool, true, false, List, ℕ, zero, suc, ◌+◌, ◌*◌, ◌%◌, eqb}
use Rattle.std.proofs.Math.Option.{Option, none, some}
use Rattle.limits.specs.Limits.{resend_every}
use Rattle.message.specs.Message.{Address}
use Rattle.protocol.specs.State.{Host, turned}
use Rattle.protocol.specs.Delivery.{Step, still, waits}
use Rattle.protocol.specs.Receive.{receive}
use Rattle.protocol.specs.Process.{process}
use Rattle.protocol.specs.Retransmit.{retransmit}

-- the turns until all begins anew
abbrev pub round : ℕ
round = 3 * resend_every

-- whose turn it is: 0, 1 or 2
abbrev pub kind : Host → ℕ
kind h = h.turns % 3

-- the host with its turn over
abbrev pub over : Host → Host
over h = turned ((h.turns + 1) % round) h

-- on a turn for receiving the datagram that has arrived, if one has; on the others it is not looked at
abbrev pub arriving : (roomy : Bool) → Host → Option (Address × List ℕ) → Step
arriving roomy h none = still h waits
arriving roomy h (some p) = receive roomy h p.0 p.1

abbrev pub resending : (due : Bool) → Host → Step
resending true h = retransmit h
resending false h = still h waits

abbrev pub by_kind : ℕ → (roomy fits : Bool) → Host → Option (Address × List ℕ) → Step
by_kind zero roomy fits h p = arriving roomy h p
by_kind (suc zero) roomy fits h p = process fits h
by_kind (suc (suc k)) roomy fits h p = resending (eqb (h.turns + 1) round) h

-- the step of the turn, and the turn is over
abbrev pub ended : Step → Step
ended s = record { state = over s.state; sends = s.sends; outcome = s.outcome; executed = s.executed }

abbrev pub turn : (roomy fits : Bool) → Host → Option (Address × List ℕ) → Step
turn roomy fits h p = ended (by_kind (kind h) roomy fits h p)
