-- What the theorem assumes, and what becomes of a run without it: no owner, or two.
-- Assumes nothing.
use mathlib.Core.Path.{◌≡◌, refl}
use mathlib.Core.Bool.{true}
use mathlib.Core.List.{List, [], ◌∷◌}
use Prim.Native.Nat.{ℕ}
use Rattle.keys.specs.declared.Bound.TheVariants.{Key, End}
use Rattle.format.specs.Number.{digits, worth}
use Rattle.message.specs.Message.{Address, message, ack, delegate}
use Rattle.message.specs.Table.{written}
use Rattle.decoding.specs.Decode.{list_of, value_of}
use Rattle.protocol.specs.State.{fresh}
use Rattle.protocol.specs.Address.{at}
use Rattle.protocol.specs.Receive.{receive}
use Rattle.world.specs.World.{World, begin}
use Rattle.world.specs.Events.{after, run}
use Rattle.world.specs.Claims.{host, transfer, claims}
use Rattle.world.proofs.Scripts.{given, D, crossing, A, B, works}

-- bytes arrive at h in the name of a host that has not handed them out to h
abbrev invented : World → (h from : Address) → List ℕ → World
invented W h from s = after W h 9 (receive true (W.state h) from s)

-- ---- an Ack is invented in B's name: A forgets the transfer, and its keys are nobody's

no_owner : (claims given 5 ≡ transfer A B 0 ∷ []) × (claims (invented given A B (written (ack 1))) 5 ≡ [])
unfolding digits worth list_of value_of
no_owner = (refl, refl)

-- ---- a transfer is invented in A's name: B takes it, and its keys have two owners

two_owners : claims (run (invented (begin A (B ∷ [])) B A (written (message 1 B (delegate (Key 0) End [])))) (works B ∷ [])) 5 ≡ host A ∷ host B ∷ []
unfolding digits worth list_of value_of
two_owners = refl

-- ---- an Ack is brought to another host than its addressee. Acks have no destination in them, so D takes B's Ack of A's transfer for one of its own,
-- and forgets it

wrong_addressee : (claims crossing 5 ≡ transfer D B 0 ∷ []) × (claims (invented crossing D B (written (ack 1))) 5 ≡ [])
unfolding digits worth list_of value_of
wrong_addressee = (refl, refl)

-- ---- hosts are started with different lists: each of them owns everything

other_list : claims (record {
  hosts = A ∷ B ∷ [];
  state = at B (fresh B (B ∷ A ∷ []) B) (begin A (B ∷ [])).state;
  sent = [];
  executed = [];
  made = λ a b. [];
  carried = λ a b. [];
}) 5 ≡ host A ∷ host B ∷ []
other_list = refl

-- ---- an address is on the list twice: two owners under one name

twice : claims (begin A (A ∷ [])) 5 ≡ host A ∷ host A ∷ []
twice = refl
