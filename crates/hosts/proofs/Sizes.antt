-- Every message that a host sends may be written, and fits a place for a datagram.
-- Assumes nothing.
use mathlib.Core.Path.{◌≡◌}
use mathlib.Core.List.{List, ◌∷◌, ◌++◌}
use mathlib.Core.Option.{Option, none, some}
use Prim.Native.Nat.{ℕ, ◌+◌, ◌*◌, ◌≤◌, ◌<◌}
use native.Mathlib.Omega.{arith}
use lib.ListN.{length, length-append}
use Rattle.limits.specs.Limits.{value_max, entries_limit, numbers}
use Rattle.keys.specs.declared.Bound.{Bound}
use Rattle.keys.specs.declared.Bound.TheVariants.{Key, End}
use Rattle.format.specs.Number.{width, digits}
use Rattle.format.specs.Format.{number, maybe, Entry, counted, encode, Good, listing, rows}
use Rattle.format.proofs.Numbers.{length_digits}
use Rattle.format.proofs.Clear.{length_counted}
use Rattle.message.specs.Message.{Address, Body, message, reply, redirect, delegate}
use Rattle.message.specs.Table.{value, key_of, body_value, fields, written, Valid}
use Rattle.message.proofs.Laws.{Short, rows_short}
use Rattle.hosts.specs.Keeps.{Sized}

-- the length of a message, by that of its body's fields
length_message : (x : ℕ) (a : Address) (b : Body)
    → length (written (message x a b)) ≡ 1 + width + width + length a + 1 + length (encode (fields (body_value b).0) (body_value b).1)
length_message x a b =
    let e = encode (fields (body_value b).0) (body_value b).1 in
    omega (
      arith,
      length-append (digits width x) (counted a ++ ((body_value b).0 ∷ e)),
      length_digits width x,
      length-append (counted a) ((body_value b).0 ∷ e),
      length_counted a,
    )

-- a value that a table keeps, or none
abbrev pub ShortValue : Option (List ℕ) → Type 0
ShortValue none = Unit
ShortValue (some v) = length v ≤ value_max

length_value : (v : Option (List ℕ)) → ShortValue v → length (encode (maybe value) v) ≤ 1 + width + value_max
length_value none h = omega arith
length_value (some v) h = omega (arith, length_counted v)

good_value : (v : Option (List ℕ)) → ShortValue v → Good (maybe value) v
good_value none h = tt
good_value (some v) h = (omega arith, omega arith)

length_bound : (b : Bound) → length (encode (maybe number) (key_of b)) ≤ 1 + width
length_bound (Key k) = omega (arith, length_digits width k)
length_bound End = omega arith

module _ (w size : ℕ) (S : Sized w size) (x : ℕ) (n : x < numbers) (a : Address) (short : length a ≤ w) where
  pub reply_good : (k : ℕ) (v : Option (List ℕ)) → k < numbers → ShortValue v → Valid (message x a (reply k v))
  reply_good k v h s = (omega arith, (n, ((omega (arith, S.address), omega (arith, S.address)), (omega arith, (h, good_value v s)))))

  pub reply_fits : (k : ℕ) (v : Option (List ℕ)) → ShortValue v → length (written (message x a (reply k v))) ≤ size
  reply_fits k v s =
      omega (
        arith,
        length_message x a (reply k v),
        length-append (digits width k) (encode (maybe value) v),
        length_digits width k,
        length_value v s,
        S.fits_delegate,
      )

  pub redirect_good : (k : ℕ) (b : Address) → k < numbers → length b ≤ w → Valid (message x a (redirect k b))
  redirect_good k b h s =
      (omega arith, (n, ((omega (arith, S.address), omega (arith, S.address)), (omega arith, (h, (omega (arith, S.address), omega (arith, S.address)))))))

  pub redirect_fits : (k : ℕ) (b : Address) → length b ≤ w → length (written (message x a (redirect k b))) ≤ size
  redirect_fits k b s =
      omega (
        arith,
        length_message x a (redirect k b),
        length-append (digits width k) (counted b),
        length_digits width k,
        length_counted b,
        S.fits_redirect,
      )

  pub delegate_fits : (lo hi : Bound) (l : List Entry) → length l < entries_limit → Short l
      → length (written (message x a (delegate lo hi l))) ≤ size
  delegate_fits lo hi l few s =
      let r : length (rows l) ≤ length l * (width + width + value_max) = rows_short l s in
      omega (
        arith,
        length_message x a (delegate lo hi l),
        length-append (encode (maybe number) (key_of lo) ++ encode (maybe number) (key_of hi)) (listing l),
        length-append (encode (maybe number) (key_of lo)) (encode (maybe number) (key_of hi)),
        length_bound lo,
        length_bound hi,
        length-append (digits width (length l)) (rows l),
        length_digits width (length l),
        r,
        few,
        S.fits_delegate,
      )
