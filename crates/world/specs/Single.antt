-- The single table that the hosts together are to be: it starts empty, and the requests are carried out on it one by one.
-- Assumes nothing.
use Rattle.std.specs.Prelude.{◌≡◌, cond, List, [], ◌∷◌, ◌⊎◌, ℕ, eqb}
use Rattle.std.proofs.Math.Option.{Option, none}
use Rattle.message.specs.Message.{Body, reply}
use Rattle.protocol.specs.Records.{Value}
use Rattle.protocol.specs.Delivery.{Act, got, stored}
use Rattle.world.specs.World.{Executed}

-- what each key holds
abbrev pub Single : Type 0
Single = ℕ → Option Value

abbrev pub acted : Act → Single → Single
acted (got k v) T = T
acted (stored k v) T = λ j. cond (eqb j k) v (T j)

-- the table after the requests, the newest first
abbrev pub table_of : List Executed → Single
table_of [] = λ k. none
table_of (e ∷ l) = acted e.request.act (table_of l)

-- a Get has answered what the table held; a Set has answered what it stored, whatever the table held
abbrev pub Right : Act → Single → Type 0
Right (got k v) T = v ≡ T k
Right (stored k v) T = Unit

-- every request was answered as the single table would have answered it
abbrev pub Answered : List Executed → Type 0
Answered [] = Unit
Answered (e ∷ l) = Right e.request.act (table_of l) × Answered l

-- the Reply to a request
abbrev pub answer : Act → Body
answer (got k v) = reply k v
answer (stored k v) = reply k v

-- ---- requests

-- it is on the list
abbrev pub Among : {A : Type 0} → A → List A → Type 0
Among x [] = ⊥
Among x (y ∷ l) = (x ≡ y) ⊎ Among x l

-- the same message of the same client to the same host
abbrev pub SameRequest : Executed → Executed → Type 0
SameRequest e f = (e.host ≡ f.host) × (e.request.from ≡ f.request.from) × (e.request.number ≡ f.request.number)

-- a message of the same host to the same client with the same number
abbrev pub SameAnswer : Executed → Executed → Type 0
SameAnswer e f = (e.host ≡ f.host) × (e.request.from ≡ f.request.from) × (e.answer ≡ f.answer)

-- no request of the list is that one, none was answered by the same message, and so for all of them
abbrev pub NotAgain : Executed → List Executed → Type 0
NotAgain e [] = Unit
NotAgain e (f ∷ l) = (SameRequest e f → ⊥) × (SameAnswer e f → ⊥) × NotAgain e l

abbrev pub Once : List Executed → Type 0
Once [] = Unit
Once (e ∷ l) = NotAgain e l × Once l
