-- What going through all waiting messages answers.
-- Assumes nothing.
use Rattle.std.specs.Prelude.{◌≡◌, List, [], ◌++◌, map, ℕ, zero, suc, ◌+◌, ◌≤◌, ◌<◌, length, take, get_or, Option, Some, None, Result, Ok, Err}
use Rattle.delivery.specs.Post.{Post, total}
use Rattle.delivery.specs.Memory.{Keeps, Standing, capacity, mark_at, datagram_at}
use Rattle.limits.specs.declared.NoRoom.{NoRoom}

-- the place of the peer's message with that number, or it has none
abbrev pub FindCases : Option ℕ → List ℕ → ℕ → ℕ → Type 0
FindCases (Some p) places peer x =
    (p < capacity places) × ((counts mail : List ℕ) (size n : ℕ) (P : Post) → Keeps counts places mail size n P → (j : ℕ) → peer < n
    → j < length (P.waiting peer) → x ≡ suc (P.acknowledged peer + j) → Standing places mail size p peer x (get_or (P.waiting peer) j []))
FindCases None places peer x =
    (counts mail : List ℕ) (size n : ℕ) (P : Post) → Keeps counts places mail size n P → (j : ℕ) → peer < n
    → j < length (P.waiting peer) → x ≡ suc (P.acknowledged peer + j) → ⊥

pub record AfterFind (places : List ℕ) (peer x : ℕ) (r : Option ℕ) : Type 0 where
  pub is : FindCases r places peer x

-- ---- all that waits, in the order in which it is sent again

-- a datagram and for whom it is, as the mark of its place says it: one more than the peer's number
pub record Letter : Type 0 where
  pub mark : ℕ
  pub bytes : List ℕ

-- what stands in place p
abbrev pub letter_at : (places mail : List ℕ) → ℕ → ℕ → Letter
letter_at places mail size p = record { mark = mark_at places p; bytes = datagram_at places mail size p }

-- a datagram for peer i
abbrev pub letter_to : ℕ → List ℕ → Letter
letter_to i d = record { mark = suc i; bytes = d }

-- what waits for peer i, in rising order of numbers
abbrev pub letters_to : Post → ℕ → List Letter
letters_to P i = map (letter_to i) (P.waiting i)

-- what waits for the first n peers, one after the other
abbrev pub letters : ℕ → Post → List Letter
letters zero P = []
letters (suc n) P = letters n P ++ letters_to P n

-- what stands in the places whose numbers are the first m that were written down
abbrev pub named : (places mail : List ℕ) → ℕ → ℕ → (out : List ℕ) → List Letter
named places mail size m out = map (letter_at places mail size) (take m out)

-- the first m that were written down are numbers of places
abbrev pub Within : (places : List ℕ) → ℕ → (out : List ℕ) → Type 0
Within places m out = (k : ℕ) → k < m → get_or out k 0 < capacity places

-- behind the first `from` stand the places of all that waits for the peer, m in all, or that is more than there is room for
abbrev pub PeerCases : Result ℕ NoRoom → (counts places : List ℕ) → ℕ → (out : List ℕ) → ℕ → (out' : List ℕ) → Type 0
PeerCases (Ok m) counts places peer out from out' =
    (m ≤ length out)
    × ((mail : List ℕ) (size n : ℕ) (P : Post) → Keeps counts places mail size n P → peer < n
    → named places mail size m out' ≡ named places mail size from out ++ letters_to P peer)
    × (Within places from out → Within places m out')
PeerCases (Err e) counts places peer out from out' =
    (mail : List ℕ) (size n : ℕ) (P : Post) → Keeps counts places mail size n P → peer < n → length out < from + length (P.waiting peer)

pub record AfterPeer (counts places : List ℕ) (peer : ℕ) (out : List ℕ) (from : ℕ) (r : Result ℕ NoRoom) (out' : List ℕ) : Type 0 where
  pub is : PeerCases r counts places peer out from out'

-- the places of all waiting messages, and no others, stand in that order at the front of what was lent for them, or they are more than it has
-- room for
abbrev pub AllCases : Result ℕ NoRoom → (counts places : List ℕ) → ℕ → (out out' : List ℕ) → Type 0
AllCases (Ok m) counts places n out out' =
    (m ≤ length out)
    × ((mail : List ℕ) (size : ℕ) (P : Post) → Keeps counts places mail size n P → named places mail size m out' ≡ letters n P)
    × Within places m out'
AllCases (Err e) counts places n out out' =
    (mail : List ℕ) (size : ℕ) (P : Post) → Keeps counts places mail size n P → length out < total n P

pub record AfterAll (counts places : List ℕ) (n : ℕ) (out : List ℕ) (r : Result ℕ NoRoom) (out' : List ℕ) : Type 0 where
  pub is : AllCases r counts places n out out'
