-- `directing::redirect` meets its contract.
-- Assumes nothing.
use mathlib.Core.Path.{◌≡◌, refl}
use mathlib.Core.List.{List}
use Prim.Native.Nat.{ℕ, ◌+◌, ◌<◌}
use native.Mathlib.Omega.{arith}
use Rattle.std.proofs.lemmas.Result.{err_from_is_err_and}
use lib.ListN.{length, length-append}
use Rattle.format.specs.Number.{width, numbers, digits}
use Rattle.format.specs.Format.{number, pair, encode, counted}
use Rattle.format.proofs.Numbers.{length_digits}
use Rattle.memory.proofs.Copies.{copied_then}
use Rattle.message.specs.Message.{redirect}
use Rattle.message.specs.Table.{address}
use Rattle.fronts.proofs.Fronts.{start_length, fields_written, fields_refused, message_written}
use Rattle.format.proofs.Clear.{length_counted}
use Rattle.directing.proofs.redirect.Goals as goal

-- the bytes of the key and the address
long : (k : ℕ) (v : List ℕ) → width + (width + length v) ≡ length (encode (pair number address) (k, v))
long k v = omega (arith, length-append (digits width k) (counted v), length_digits width k, length_counted v)

pub returns-in_err-at : goal.returns-in_err-at
returns-in_err-at c =
    let a = c.args in
    let known : a.n < numbers = omega arith in
    let p = err_from_is_err_and c.from_residual.result c.from_residual.ensures.1 in
    rw (p.1, p.2)
    (message_written (redirect a.key a.address.now) a.n a.to.now 3 (a.key, a.address.now) a.d.now known (omega arith) refl (fields_refused (pair number address) (a.key, a.address.now) a.n a.to.now 3 _ a.d.now (long a.key a.address.now) _ c.in_err-at.ensures))

pub returns : goal.returns
returns c =
    let a = c.args in
    let s = c.in_ok-at.ensures in
    let e = length_digits width a.key in
    let u = length_counted a.address.now in
    let known : a.n < numbers = omega arith in
    let small : a.key < numbers = omega arith in
    let short : length a.address.now < numbers = omega arith in
    let w = copied_then _ _ _ _ _ _ _ (omega (arith, e)) (omega (arith, e, u, s.is.2, start_length s)) c.number.ensures c.text.ensures in
    message_written (redirect a.key a.address.now) a.n a.to.now 3 (a.key, a.address.now) a.d.now known (omega arith) refl (fields_written (pair number address) (a.key, a.address.now) a.n a.to.now 3 _ a.d.now (long a.key a.address.now) s (small, (c.if-address-ge-BYTES_MAX.false, short)) w)
