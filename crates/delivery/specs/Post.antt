-- What a host knows of each peer (document 01, section 4), by the peer's number: the number of the last message taken, how many it has
-- acknowledged, and the messages after that, in order, as the bytes that are sent.
-- Assumes nothing.
use Rattle.std.specs.Prelude.{cond, List, [], ◌∷◌, ◌++◌, ℕ, zero, suc, ◌+◌, ◌-◌, length, drop, eqb}

pub record Post : Type 0 where
  pub received : ℕ → ℕ
  pub acknowledged : ℕ → ℕ
  pub waiting : ℕ → List (List ℕ)

-- f with v for peer i
abbrev pub at : {A : Type 0} → ℕ → A → (ℕ → A) → ℕ → A
at i v f j = cond (eqb j i) v (f j)

-- nothing was received or sent
abbrev pub nothing : Post
nothing = record { received = λ i. 0; acknowledged = λ i. 0; waiting = λ i. [] }

-- the number of the last message that was sent to peer i, and that of the next
abbrev pub last : Post → ℕ → ℕ
last P i = P.acknowledged i + length (P.waiting i)

abbrev pub next : Post → ℕ → ℕ
next P i = suc (last P i)

-- the message with the number n was taken from peer i
abbrev pub took : ℕ → ℕ → Post → Post
took i n P = record { received = at i n P.received; acknowledged = P.acknowledged; waiting = P.waiting }

-- one more message waits for peer i
abbrev pub posted : ℕ → List ℕ → Post → Post
posted i bytes P = record {
  received = P.received;
  acknowledged = P.acknowledged;
  waiting = at i (P.waiting i ++ (bytes ∷ [])) P.waiting;
}

-- the messages up to the number n have arrived at peer i
abbrev pub confirmed : ℕ → ℕ → Post → Post
confirmed i n P = record {
  received = P.received;
  acknowledged = at i n P.acknowledged;
  waiting = at i (drop (n - P.acknowledged i) (P.waiting i)) P.waiting;
}

-- peer i is new
abbrev pub joined : ℕ → Post → Post
joined i P = record { received = at i 0 P.received; acknowledged = at i 0 P.acknowledged; waiting = at i [] P.waiting }

-- how many messages wait, for the first n peers in all
abbrev pub total : ℕ → Post → ℕ
total zero P = 0
total (suc n) P = length (P.waiting n) + total n P
