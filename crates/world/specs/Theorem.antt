-- What holds of every run of any hosts: one owner for each key, no transfer lost or carried out twice, and one table. `proofs/Theorem.antt` has
-- the proof that it does; nothing else has to be read to know what was proved but this file and those that it names.
-- Assumes nothing.
use Rattle.std.specs.Prelude.{◌≡◌, true, List, ◌∷◌, ◌++◌, ℕ, ◌+◌, length}
use Rattle.std.proofs.Math.Option.{Option, none, some}
use Rattle.message.specs.Message.{Address, Body, Datagram, message, reply, redirect}
use Rattle.message.specs.Table.{written, Valid}
use Rattle.decoding.specs.Decode.{read}
use Rattle.protocol.specs.Address.{among}
use Rattle.protocol.specs.Records.{Value, look}
use Rattle.protocol.specs.Owners.{owner_of}
use Rattle.protocol.specs.State.{different, short}
use Rattle.protocol.specs.Delivery.{Packet, numbered_from}
use Rattle.world.specs.World.{Sent, Executed, World, begin}
use Rattle.world.specs.Events.{Event, nth, run}
use Rattle.world.specs.Claims.{on_the_way, moves, says, Claim, host, transfer, claims}
use Rattle.world.specs.Single.{Among, table_of, Answered, answer, Once}

-- the address is a host's
abbrev pub IsHost : World → Address → Type 0
IsHost W x = among x W.hosts ≡ true

-- ---- 1. one owner

-- the claim c has the key k
abbrev pub Has : World → ℕ → Claim → Type 0
Has W k (host x) = IsHost W x × (owner_of (W.state x).owners k ≡ x)
Has W k (transfer a b i) = IsHost W a × IsHost W b × ((m : Body) × (nth i (on_the_way W a b) ≡ some m) × (moves m k ≡ true))

-- one claim has the key, and no other
abbrev pub OneOwner : World → ℕ → Type 0
OneOwner W k = (c : Claim) × Has W k c × ((d : Claim) → Has W k d → d ≡ c)

-- ---- 2. transfers

-- those ever made from one host to another are, in order, those that were carried out and then those on their way
abbrev pub Transfers : World → Address → Address → Type 0
Transfers W a b = W.made a b ≡ W.carried a b ++ on_the_way W a b

-- ---- 3. one table

-- a Reply with that number, which the host x has handed out to the address c, is the answer to a request of c's that x has carried out
abbrev pub Explains : List Executed → (x c : Address) → ℕ → ℕ → Option Value → Executed → Type 0
Explains l x c n k v e =
    Among e l × (e.host ≡ x) × (e.request.from ≡ c) × (e.answer ≡ n) × (answer e.request.act ≡ reply k v)

abbrev pub Replies : World → Sent → Type 0
Replies W p =
    (n : ℕ) (to : Address) (k : ℕ) (v : Option Value) → read p.bytes ≡ some (message n to (reply k v))
    → (e : Executed) × Explains W.executed p.from p.to n k v e

-- whoever gets a Redirect is sent to a host
abbrev pub Redirects : World → Sent → Type 0
Redirects W p = (n : ℕ) (to : Address) (k : ℕ) (a : Address) → read p.bytes ≡ some (message n to (redirect k a)) → IsHost W a

-- ---- what is sent may be written

-- the bytes are those of a message that may be written
abbrev pub Writable : List ℕ → Type 0
Writable s = (d : Datagram) × Valid d × (s ≡ written d)

-- what waits for c at the host x, as the datagrams that sending again hands out
abbrev pub waits : World → (x c : Address) → List Packet
waits W x c = numbered_from ((W.state x).acknowledged c + 1) c ((W.state x).waiting c)

-- ---- all of it

pub record Holds (W : World) : Type 0 where
  -- every key has one owner; counted, there is one claim
  pub one_owner : (k : ℕ) → OneOwner W k
  pub one_claim : (k : ℕ) → length (claims W k) ≡ 1
  pub transfers : (a b : Address) → IsHost W a → IsHost W b → Transfers W a b
  -- the requests were answered as one table would have, each was carried out once and answered by a message of its own, and every Reply is such an answer
  pub answered : Answered W.executed
  pub once : Once W.executed
  pub replies : (p : Sent) → Among p W.sent → Replies W p
  pub redirects : (p : Sent) → Among p W.sent → Redirects W p
  -- whatever was handed out, and whatever waits, may be written
  pub sent_writable : (p : Sent) → Among p W.sent → Writable p.bytes
  pub waiting_writable : (x c : Address) → IsHost W x → (p : Packet) → Among p (waits W x c) → Writable p.bytes
  -- 4. who has the key, host or transfer, holds for it what the one table holds; and a host holds nothing else
  pub host_records : (k : ℕ) (x : Address) → IsHost W x → owner_of (W.state x).owners k ≡ x → look k (W.state x).records ≡ table_of W.executed k
  pub no_other_records : (k : ℕ) (x : Address) → IsHost W x → (owner_of (W.state x).owners k ≡ x → ⊥) → look k (W.state x).records ≡ none
  pub transfer_records : (k : ℕ) (a b : Address) → IsHost W a → IsHost W b → (m : Body) → Among m (on_the_way W a b) → moves m k ≡ true
      → says m k ≡ table_of W.executed k

-- The theorem: for every nonempty list of different hosts, all started with it, and every list of events
abbrev pub Theorem : Type 0
Theorem =
    (first : Address) (others : List Address) → different (first ∷ others) ≡ true → short (first ∷ others) ≡ true → (events : List Event)
    → Holds (run (begin first others) events)
