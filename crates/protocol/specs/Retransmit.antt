-- Sending again (document 01, section 4).
-- Assumes nothing.
use Rattle.std.specs.Prelude.{List, [], ◌∷◌, ◌++◌, ◌+◌}
use Rattle.std.proofs.Math.Option.{none}
use Rattle.message.specs.Message.{Address}
use Rattle.protocol.specs.State.{Host}
use Rattle.protocol.specs.Delivery.{Packet, Step, numbered_from, resent}

-- every waiting message once: to one peer after the other, to each in rising order of numbers
abbrev pub to_all : Host → List Address → List Packet
to_all h [] = []
to_all h (a ∷ l) = numbered_from (h.acknowledged a + 1) a (h.waiting a) ++ to_all h l

abbrev pub retransmit : Host → Step
retransmit h = record { state = h; sends = to_all h h.peers; outcome = resent; executed = none }
