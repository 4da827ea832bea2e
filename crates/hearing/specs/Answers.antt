-- What is known of an address.
-- Assumes nothing.
use Rattle.std.specs.Prelude.{◌≡◌, Bool, true, false, List, ℕ}
use Rattle.message.specs.Message.{Address}
use Rattle.protocol.specs.State.{Host}
use Rattle.hosts.specs.declared.State.{State}
use Rattle.hosts.specs.Memory.{memory}
use Rattle.hosts.specs.Keeps.{Core}

-- r is the number of the last message that was taken from the address a
pub record Last (name_lens names counts : List ℕ) (k : State) (a : Address) (r : ℕ) : Type 0 where
  pub is : (lows owners keys slots lens values places mail : List ℕ) (h : Host)
      → Core (memory lows owners keys slots lens values name_lens names counts places mail) k h → r ≡ h.received a

-- r says whether the address a is the host's own
pub record Own (name_lens names : List ℕ) (k : State) (a : Address) (r : Bool) : Type 0 where
  pub yes : r ≡ true → (lows owners keys slots lens values counts places mail : List ℕ) (h : Host)
      → Core (memory lows owners keys slots lens values name_lens names counts places mail) k h → a ≡ h.me
  pub other : r ≡ false → (lows owners keys slots lens values counts places mail : List ℕ) (h : Host)
      → Core (memory lows owners keys slots lens values name_lens names counts places mail) k h → a ≡ h.me → ⊥
