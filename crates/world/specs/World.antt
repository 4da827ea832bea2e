-- The world: every host's state, every datagram that was ever handed out, and what has happened so far.
-- Assumes nothing.
use Rattle.std.specs.Prelude.{List, [], ◌∷◌, ℕ}
use Rattle.message.specs.Message.{Address, Body}
use Rattle.protocol.specs.State.{Host, fresh}
use Rattle.protocol.specs.Delivery.{Request}

-- a datagram that was handed out: by which host, to whom, and its bytes
pub record Sent : Type 0 where
  pub from : Address
  pub to : Address
  pub bytes : List ℕ

-- a request that a host has carried out, and the number of the message that answers it
pub record Executed : Type 0 where
  pub host : Address
  pub request : Request
  pub answer : ℕ

pub record World : Type 0 where
  -- the hosts, and what each of them knows. (Of an address that is no host's the state says nothing, and nothing asks for it)
  pub hosts : List Address
  pub state : Address → Host
  -- every datagram that was ever handed out, in order. It stays here for good: it may be brought again at any time, or never
  pub sent : List Sent
  -- the requests that were carried out, the newest first
  pub executed : List Executed
  -- the transfers that one host has made to another, and those of them that the other has carried out, in order
  pub made : (from to : Address) → List Body
  pub carried : (from to : Address) → List Body

-- Where all begins: every host of the list was started with the list. The law `starts` says that these are the states that starting gives
abbrev pub begin : Address → List Address → World
begin first others = record {
  hosts = first ∷ others;
  state = λ x. fresh first (first ∷ others) x;
  sent = [];
  executed = [];
  made = λ a b. [];
  carried = λ a b. [];
}
