-- `asking::shard` meets its contract.
-- Assumes nothing.
use mathlib.Core.Path.{◌≡◌, refl}
use mathlib.Core.List.{List, ◌++◌}
use Prim.Native.Nat.{ℕ, ◌+◌, ◌<◌}
use native.Mathlib.Omega.{arith}
use Rattle.std.proofs.lemmas.Result.{err_from_is_err_and}
use lib.ListN.{length, length-append}
use Rattle.format.specs.Number.{width, numbers}
use Rattle.format.specs.Format.{number, maybe, pair, encode, counted}
use Rattle.memory.proofs.Copies.{copied_then}
use Rattle.message.specs.Message.{shard}
use Rattle.message.specs.Table.{range, address, key_of}
use Rattle.keys.specs.declared.Bound.{Bound}
use Rattle.fronts.proofs.Fronts.{start_length, fields_written, fields_refused, message_written}
use Rattle.format.proofs.Clear.{length_counted}
use Rattle.asking.proofs.shard.Goals as goal

-- the bytes of the bounds and the address
long : (lo hi : Bound) (v : List ℕ) (x y : ℕ) → x ≡ length (encode (maybe number) (key_of lo)) → y ≡ length (encode (maybe number) (key_of hi))
    → x + y + (width + length v) ≡ length (encode (pair range address) ((key_of lo, key_of hi), v))
long lo hi v x y p q =
    let l : List ℕ = encode (maybe number) (key_of lo) in
    let h : List ℕ = encode (maybe number) (key_of hi) in
    omega (arith, p, q, length-append (l ++ h) (counted v), length-append l h, length_counted v)

pub returns-in_err-at : goal.returns-in_err-at
returns-in_err-at c =
    let a = c.args in
    let known : a.n < numbers = omega arith in
    let l = long a.lo a.hi a.address.now _ _ c.bound_length-low.ensures.0 c.bound_length.ensures.0 in
    let p = err_from_is_err_and c.from_residual.result c.from_residual.ensures.1 in
    rw (p.1, p.2)
    (message_written (shard a.lo a.hi a.address.now) a.n a.to.now 4 ((key_of a.lo, key_of a.hi), a.address.now) a.d.now known (omega arith) refl (fields_refused (pair range address) ((key_of a.lo, key_of a.hi), a.address.now) a.n a.to.now 4 _ a.d.now l _ c.in_err-at.ensures))

pub returns : goal.returns
returns c =
    let a = c.args in
    let s = c.in_ok-at.ensures in
    let p = c.bound_length-low.ensures.0 in
    let q = c.bound_length.ensures.0 in
    let u = length_counted a.address.now in
    let lo : List ℕ = encode (maybe number) (key_of a.lo) in
    let hi : List ℕ = encode (maybe number) (key_of a.hi) in
    let both : length (lo ++ hi) ≡ length lo + length hi = length-append lo hi in
    let known : a.n < numbers = omega arith in
    let short : length a.address.now < numbers = omega arith in
    let l = long a.lo a.hi a.address.now _ _ p q in
    let x = copied_then lo hi _ _ _ _ _ (omega (arith, p)) (omega (arith, p, q, s.is.2, start_length s)) c.bound.ensures.0 c.bound-2.ensures.0 in
    let w = copied_then (lo ++ hi) _ _ _ _ _ _ (omega (arith, p, q, both)) (omega (arith, p, q, u, both, s.is.2, start_length s)) x c.text.ensures in
    message_written (shard a.lo a.hi a.address.now) a.n a.to.now 4 ((key_of a.lo, key_of a.hi), a.address.now) a.d.now known (omega arith) refl (fields_written (pair range address) ((key_of a.lo, key_of a.hi), a.address.now) a.n a.to.now 4 _ a.d.now l s ((c.bound.ensures.1, c.bound-2.ensures.1), (c.if-address-ge-BYTES_MAX.false, short)) w)
