-- What sending the asker to a key's owner answers.
-- Assumes nothing.
use Rattle.std.specs.Prelude.{◌≡◌, List, ℕ}
use Rattle.delivery.specs.Post.{next}
use Rattle.delivery.specs.Memory.{Open}
use Rattle.protocol.specs.State.{Host, Letter}
use Rattle.protocol.specs.Process.{redirecting}
use Rattle.hosts.specs.declared.State.{State}
use Rattle.hosts.specs.declared.Done.{Done}
use Rattle.hosts.specs.Memory.{Memory, memory}
use Rattle.hosts.specs.Keeps.{Core}
use Rattle.hosts.specs.Answers.{AfterRow}

-- place p is free for the answer, and x is the number of the next message to the letter's sender
pub record Picked (m : Memory) (k : State) (p x : ℕ) (h : Host) : Type 0 where
  pub place_open : Open m.places p
  pub number_is : (C : Core m k h) → x ≡ next C.P k.from

-- .. and that peer is the key's owner
pub record Owned (m : Memory) (k : State) (p x key owner : ℕ) (h : Host) (l : Letter) : Type 0 where
  pub picked : Picked m k p x h
  pub owner_is : (C : Core m k h) → owner ≡ C.f key

pub record AfterRefer (name_lens names counts places mail : List ℕ) (k : State) (p x key owner : ℕ) (r : Done) (counts' places' mail' : List ℕ)
    : Type 0 where
  pub is : (lows owners keys slots lens values : List ℕ)
      → AfterRow (memory lows owners keys slots lens values name_lens names counts places mail) k
      (Owned (memory lows owners keys slots lens values name_lens names counts places mail) k p x key owner)
      (λ h l. redirecting h l key)
      r
      (memory lows owners keys slots lens values name_lens names counts' places' mail')
