-- What a message is to its host.
-- Assumes nothing.
use Rattle.std.specs.Prelude.{◌≡◌, List, ℕ, suc, ◌≤◌, ◌<◌}
use Rattle.format.specs.declared.Part.{Part}
use Rattle.message.specs.Message.{Address}
use Rattle.message.specs.View.{bytes_of, PartIn}
use Rattle.protocol.specs.State.{Host}
use Rattle.hosts.specs.declared.State.{State}
use Rattle.hosts.specs.Memory.{memory}
use Rattle.hosts.specs.Keeps.{Core}
use Rattle.sorting.specs.declared.Kind.{Kind}
use Rattle.sorting.specs.declared.Kind.TheVariants.{Elsewhere, Again, Future, Next}

-- the message with the number n from the address a, for the address d
abbrev pub Sorted : Kind → Host → (a d : Address) → ℕ → Type 0
Sorted Elsewhere h a d n = d ≡ h.me → ⊥
Sorted Again h a d n = (d ≡ h.me) × (n ≤ h.received a)
Sorted Future h a d n = (d ≡ h.me) × (suc (h.received a) < n)
Sorted (Next i) h a d n = (d ≡ h.me) × (n ≡ suc (h.received a))

-- this holds of every host that memory keeps, if the destination stands in the datagram
pub record AfterSort (name_lens names counts : List ℕ) (k : State) (a : Address) (s : List ℕ) (n : ℕ) (to : Part) (r : Kind) : Type 0 where
  pub is : (lows owners keys slots lens values places mail : List ℕ) (h : Host)
      → Core (memory lows owners keys slots lens values name_lens names counts places mail) k h → PartIn s to → Sorted r h a (bytes_of s to) n
