-- What the private functions answer, and what their proofs go by. A caller of the crate need not read this.
-- Assumes nothing.
use Rattle.std.specs.Prelude.{◌≡◌, Bool, true, false, List, ℕ, ◌<◌}
use Rattle.keys.specs.declared.Bound.{Bound}
use Rattle.format.specs.declared.Part.{Part}
use Rattle.message.specs.Message.{Address}
use Rattle.message.specs.declared.ListView.{ListView}
use Rattle.message.specs.declared.BodyView.TheVariants.{Shard, Delegate}
use Rattle.delivery.specs.Memory.{Open, capacity, mark_at}
use Rattle.hosts.specs.declared.State.{State}
use Rattle.rooms.specs.Answers.{Tested}

-- r says whether a place for a message is free
pub record Vacant (places : List ℕ) (r : Bool) : Type 0 where
  pub yes : r ≡ true → (p : ℕ) × Open places p
  pub no : r ≡ false → (p : ℕ) → p < capacity places → 0 < mark_at places p

-- ---- a Shard

-- the answer for a Shard, whoever sent it and whatever slots there are
pub record ShardTested (lows owners keys name_lens names places : List ℕ) (k : State) (s : List ℕ) (lo hi : Bound) (to : Part) (r : Bool) : Type 0 where
  pub is : (slots : List ℕ) (a : Address) → Tested lows owners keys slots name_lens names places k a s (Shard lo hi to) r

-- ---- a Delegate

-- the numbers of a host that hears from peer i
abbrev pub heard : State → ℕ → State
heard k i = record k { from = i }

-- the answer for a Delegate, whatever places there are
pub record DelegateTested (lows owners keys slots name_lens names : List ℕ) (k : State) (a : Address) (s : List ℕ) (lo hi : Bound) (list : ListView)
    (r : Bool) : Type 0 where
  pub is : (places : List ℕ) → Tested lows owners keys slots name_lens names places k a s (Delegate lo hi list) r
