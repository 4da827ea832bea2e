-- The entries that memory keeps as a list with rising keys, and the bounds as a list of ranges that were given away.
-- Assumes nothing.
use mathlib.Core.Path.{◌≡◌, refl, ap}
use mathlib.Core.Logic.{⊎_elim}
use mathlib.Core.List.{List, [], ◌∷◌}
use Prim.Native.Nat.{ℕ, zero, suc, ◌+◌, ◌≤◌, ◌<◌}
use native.Mathlib.Omega.{arith}
use lib.ListN.{get_or}
use borrow.Author.Tests.{lt-ltb, le-ltb}
use Rattle.columns.proofs.Cases.{lt_or_ge}
use Rattle.keys.specs.declared.Bound.TheVariants.{Key, End}
use Rattle.format.specs.Format.{Above}
use Rattle.message.specs.Message.{Address}
use Rattle.records.specs.Table.{Value, Table, Listed}
use Rattle.records.proofs.Laws.{listed_one}
use Rattle.delegation.specs.Map.{Keeps}
use Rattle.protocol.specs.Records.{look}
use Rattle.protocol.specs.Owners.{Grant, newest}
use Rattle.hosts.proofs.Tables.{made, listed_of}

-- ---- entries

-- the list is made from rising keys, so it rises
above_made : (key : ℕ → ℕ) (val : ℕ → Value) (low i m : ℕ) → ((x y : ℕ) → x < y → y < i + m → key x < key y) → (0 < m → low ≤ key i)
    → Above low (made key val i m)
above_made key val low i zero r l = tt
above_made key val low i (suc m) r l =
    (l (omega arith), above_made key val (suc (key i)) (suc i) m (λ x y p q. r x y p (omega arith)) (λ q. r i (suc i) (omega arith) (omega arith)))

module _ {n : ℕ} {key : ℕ → ℕ} {val : ℕ → Value} {T : Table} (L : Listed n key val T) where
  pub made_above : Above 0 (made key val 0 n)
  made_above = above_made key val 0 0 n (λ x y p q. L.rising x y p (omega arith)) (λ q. omega arith)

  -- .. and it says of each key what the table says
  pub made_look : (k : ℕ) → T k ≡ look k (made key val 0 n)
  made_look = listed_one n key val T (λ k. look k (made key val 0 n)) L (listed_of (made key val 0 n) made_above n key val refl)

-- ---- bounds

-- each of the first n bounds gives all keys from its own on to its owner; the last is the newest
abbrev pub given : (ℕ → Address) → (lows owners : List ℕ) → ℕ → List Grant
given N lows owners zero = []
given N lows owners (suc n) = record { lo = Key (get_or lows n 0); hi = End; to = N (get_or owners n 0) } ∷ given N lows owners n

module _ (N : ℕ → Address) {lows owners : List ℕ} {n : ℕ} {f : ℕ → ℕ} (K : Keeps lows owners n f) (first : Address) (k : ℕ) where
  -- the first m bounds tell the owners of all keys below the next
  given_below : (m : ℕ) → m ≤ n → 0 < m → (m < n → k < get_or lows m 0) → N (f k) ≡ newest first (given N lows owners m) k
  given_below zero h p b = absurd (omega arith)
  given_below (suc m) h p b =
      ⊎_elim
      (λ q.
      rw (lt-ltb k (get_or lows m 0) q)
      (given_below m (omega arith) (⊎_elim (λ z. z) (λ z. let e : m ≡ 0 = omega arith in absurd (omega (arith, q, K.zero, ap (λ (x : ℕ). get_or lows x 0) e))) (lt_or_ge 0 m)) (λ _. q)))
      (λ q. rw (le-ltb k (get_or lows m 0) q, K.means m k (omega arith) q b) refl)
      (lt_or_ge k (get_or lows m 0))

  pub given_all : N (f k) ≡ newest first (given N lows owners n) k
  given_all = given_below n (omega arith) K.some (λ q. absurd (omega arith))
