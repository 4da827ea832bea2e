-- The worked datagrams of document 01, section 3, byte for byte: what the definitions compute is what the document has.
-- Assumes nothing.
use mathlib.Core.Path.{◌≡◌, refl}
use mathlib.Core.List.{List, [], ◌∷◌, ◌++◌}
use mathlib.Core.Option.{none}
use Prim.Native.Nat.{ℕ}
use Rattle.keys.specs.declared.Bound.TheVariants.{Key, End}
use Rattle.format.specs.Number.{digits}
use Rattle.message.specs.Message.{message, ack, get, set, delegate}
use Rattle.message.specs.Table.{written}

-- a number below 256, in its eight bytes
eight : ℕ → List ℕ
eight n = n ∷ 0 ∷ 0 ∷ 0 ∷ 0 ∷ 0 ∷ 0 ∷ 0 ∷ []

-- "a:1" and "b:2"
a1 : List ℕ
a1 = 0x61 ∷ 0x3a ∷ 0x31 ∷ []

b2 : List ℕ
b2 = 0x62 ∷ 0x3a ∷ 0x32 ∷ []

-- Get 5, number 1, destination "a:1"
get_5 : written (message 1 a1 (get 5)) ≡ 0 ∷ (eight 1 ++ (eight 3 ++ (a1 ++ (0 ∷ eight 5))))
unfolding digits eight a1
get_5 = refl

-- Set 5 to none, number 2
set_5 : written (message 2 a1 (set 5 none)) ≡ 0 ∷ (eight 2 ++ (eight 3 ++ (a1 ++ (1 ∷ (eight 5 ++ (0 ∷ []))))))
unfolding digits eight a1
set_5 = refl

ack_7 : written (ack 7) ≡ 1 ∷ eight 7
unfolding digits eight
ack_7 = refl

-- Delegate [7, end) with 9 -> "x", number 1, to "b:2"
delegate_7 : written (message 1 b2 (delegate (Key 7) End (record { key = 9; value = 0x78 ∷ [] } ∷ [])))
    ≡ 0 ∷ (eight 1 ++ (eight 3 ++ (b2 ++ (5 ∷ (1 ∷ (eight 7 ++ (0 ∷ (eight 1 ++ (eight 9 ++ (eight 1 ++ (0x78 ∷ [])))))))))))
unfolding digits eight b2
delegate_7 = refl
