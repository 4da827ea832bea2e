-- What the room test answers (document 01, section 6).
-- Assumes nothing.
use Rattle.std.specs.Prelude.{◌≡◌, Bool, true, false, List, ℕ}
use Rattle.message.specs.Message.{Address}
use Rattle.message.specs.declared.BodyView.{BodyView}
use Rattle.message.specs.View.{body_of, BodyIn}
use Rattle.protocol.specs.State.{Host, Letter}
use Rattle.hosts.specs.declared.State.{State}
use Rattle.hosts.specs.Memory.{memory}
use Rattle.hosts.specs.Limits.{Needs}
use Rattle.hosts.specs.Keeps.{Core, limits_of}

-- r says whether there is room for all that the message from the address a may need, whose body stands in the datagram s. The test is not lent
-- the table's values, the peers' words, the mail or the room, so it says this whatever they are
pub record Tested (lows owners keys slots name_lens names places : List ℕ) (k : State) (a : Address) (s : List ℕ) (b : BodyView) (r : Bool) : Type 0 where
  pub roomy : r ≡ true → (lens values counts mail room : List ℕ) (h : Host) (l : Letter)
      → Core (memory lows owners keys slots lens values name_lens names counts places mail) k h → l.from ≡ a → BodyIn s b
      → Needs (limits_of (memory lows owners keys slots lens values name_lens names counts places mail) k room) h l (body_of s b)
  pub lacks : r ≡ false → (lens values counts mail room : List ℕ) (h : Host) (l : Letter)
      → Core (memory lows owners keys slots lens values name_lens names counts places mail) k h → l.from ≡ a → BodyIn s b
      → Needs (limits_of (memory lows owners keys slots lens values name_lens names counts places mail) k room) h l (body_of s b) → ⊥
