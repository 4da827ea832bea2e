-- What a private function answers. A caller of the crate need not read this.
-- Assumes nothing.
use Rattle.std.specs.Prelude.{Bool, true, false}
use Rattle.incoming.specs.declared.Received.{Received}
use Rattle.incoming.specs.declared.Received.TheVariants.{Arrived, Stale}

-- what became of an Ack
abbrev pub ack_outcome_of : Bool → Received
ack_outcome_of true = Arrived
ack_outcome_of false = Stale
