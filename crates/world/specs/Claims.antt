-- Who has a claim to a key: a host whose map says "mine", or a transfer on its way. A transfer is on its way from the moment when the sender has
-- changed its map until the recipient has carried it out. All that time it waits at the sender above what the recipient has received, or it is in
-- the recipient's room; datagrams with it in them are copies and claim nothing.
-- Assumes nothing.
use Rattle.std.specs.Prelude.{Bool, false, cond, List, [], ◌∷◌, ◌++◌, ℕ, suc, ◌-◌, drop}
use Rattle.std.proofs.Math.Option.{Option, none, some}
use Rattle.keys.specs.Bound.{holds}
use Rattle.message.specs.Message.{Address, Body, get, set, reply, redirect, shard, delegate}
use Rattle.decoding.specs.Decode.{same}
use Rattle.protocol.specs.Records.{Value, look}
use Rattle.protocol.specs.Owners.{owner_of}
use Rattle.protocol.specs.State.{Host, Letter}
use Rattle.world.specs.World.{World}

-- does the host's map say "mine"?
abbrev pub mine : Host → Address → ℕ → Bool
mine h x k = same (owner_of h.owners k) x

-- ---- transfers on their way

-- what of a's is in the room
abbrev pub in_room : Address → Option Letter → List Body
in_room a none = []
in_room a (some l) = cond (same l.from a) (l.body ∷ []) []

-- what waits for b at the host s, above what t has received from it
abbrev pub not_received : (a b : Address) → (s t : Host) → List Body
not_received a b s t = drop (t.received a - s.acknowledged b) (s.waiting b)

-- what is on its way from a to b, in order: the message in b's room comes first
abbrev pub on_the_way : World → (a b : Address) → List Body
on_the_way W a b = in_room a (W.state b).room ++ not_received a b (W.state a) (W.state b)

-- is it a transfer of the key?
abbrev pub moves : Body → ℕ → Bool
moves (delegate lo hi es) k = holds lo hi k
moves (get j) k = false
moves (set j v) k = false
moves (reply j v) k = false
moves (redirect j a) k = false
moves (shard lo hi a) k = false

-- what a transfer says that the key holds
abbrev pub says : Body → ℕ → Option Value
says (delegate lo hi es) k = look k es
says (get j) k = none
says (set j v) k = none
says (reply j v) k = none
says (redirect j a) k = none
says (shard lo hi a) k = none

-- ---- all claims to a key

-- a host, or the transfer with that place among those on their way from one host to another
pub data Claim : Type 0 where
  host : Address → Claim
  transfer : (from to : Address) → (place : ℕ) → Claim

abbrev pub host_claims : World → ℕ → List Address → List Claim
host_claims W k [] = []
host_claims W k (x ∷ l) = cond (mine (W.state x) x k) (host x ∷ []) [] ++ host_claims W k l

abbrev pub way_claims : (a b : Address) → ℕ → ℕ → List Body → List Claim
way_claims a b k i [] = []
way_claims a b k i (m ∷ l) = cond (moves m k) (transfer a b i ∷ []) [] ++ way_claims a b k (suc i) l

-- .. from a to each of these hosts, and from each of those
abbrev pub claims_from : World → ℕ → Address → List Address → List Claim
claims_from W k a [] = []
claims_from W k a (b ∷ l) = way_claims a b k 0 (on_the_way W a b) ++ claims_from W k a l

abbrev pub transfer_claims : World → ℕ → List Address → List Claim
transfer_claims W k [] = []
transfer_claims W k (a ∷ l) = claims_from W k a W.hosts ++ transfer_claims W k l

abbrev pub claims : World → ℕ → List Claim
claims W k = host_claims W k W.hosts ++ transfer_claims W k W.hosts
