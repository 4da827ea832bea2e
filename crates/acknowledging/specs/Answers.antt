-- What an Ack does to a host.
-- Assumes nothing.
use Rattle.std.specs.Prelude.{◌≡◌, Bool, true, false, ◌&&◌, List, ℕ, ltb}
use Rattle.message.specs.Message.{Address}
use Rattle.protocol.specs.Address.{among}
use Rattle.protocol.specs.State.{Host}
use Rattle.protocol.specs.Delivery.{confirmed}
use Rattle.hosts.specs.declared.State.{State}
use Rattle.hosts.specs.Memory.{memory}
use Rattle.hosts.specs.Keeps.{Core}

-- r says whether the Ack of x from the address a counts. If it does, what waits up to x is gone; else nothing has changed
pub record AfterAck (name_lens names counts places : List ℕ) (k : State) (a : Address) (x : ℕ) (r : Bool) (counts' places' : List ℕ) : Type 0 where
  pub counts_is : (lows owners keys slots lens values mail : List ℕ) (h : Host)
      → Core (memory lows owners keys slots lens values name_lens names counts places mail) k h
      → r ≡ among a h.peers && ltb (h.acknowledged a) x
  pub arrived : r ≡ true → (lows owners keys slots lens values mail : List ℕ) (h : Host)
      → Core (memory lows owners keys slots lens values name_lens names counts places mail) k h
      → Core (memory lows owners keys slots lens values name_lens names counts' places' mail) k (confirmed a x h)
  pub stale : r ≡ false → (counts' ≡ counts) × (places' ≡ places)
