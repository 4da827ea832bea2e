-- `answering::keyed` meets its contract.
-- Assumes nothing.
use mathlib.Core.Path.{◌≡◌}
use mathlib.Core.List.{List}
use Prim.Native.Nat.{ℕ, ◌+◌, ◌<◌}
use native.Mathlib.Omega.{arith}
use lib.ListN.{length, length-append}
use Rattle.format.specs.Number.{width, numbers, digits}
use Rattle.format.specs.Format.{number, maybe, pair, encode, Good}
use Rattle.format.proofs.Numbers.{length_digits}
use Rattle.format.proofs.Clear.{length_counted}
use Rattle.memory.proofs.Copies.{copied_then}
use Rattle.message.specs.Table.{value}
use Rattle.message.specs.Given.{given}
use Rattle.fronts.proofs.Fronts.{start_length, fields_written, fields_refused}
use Rattle.std.proofs.Common.{Bor, Option, Some, None}
use Rattle.std.proofs.lemmas.Result.{err_from_is_err_and}
use Rattle.answering.proofs.keyed.Goals as goal

-- the bytes of the key and the value
long : (k : ℕ) (v : Option (Bor (List ℕ))) (m : ℕ) → m ≡ length (encode (maybe value) (given v)) → width + m ≡ length (encode (pair number (maybe value)) (k, given v))
long k v m e =
    let l : List ℕ = encode (maybe value) (given v) in
    omega (arith, e, length-append (digits width k) l, length_digits width k)

-- a value that has room in memory is never too long to be told
told : (v : Option (Bor (List ℕ))) → length (encode (maybe value) (given v)) < numbers → Good (maybe value) (given v)
told (Some v) h = let p : length v.now < numbers = omega (arith, length_counted v.now) in (p, p)
told None h = tt

pub returns-in_err-at : goal.returns-in_err-at
returns-in_err-at c =
    let a = c.args in
    let p = err_from_is_err_and c.from_residual.result c.from_residual.ensures.1 in
    let l = long a.key a.v _ c.optional_length-more.ensures.0 in
    rw (p.1, p.2) (fields_refused (pair number (maybe value)) (a.key, given a.v) a.n a.to.now a.kind _ a.d.now l _ c.in_err-at.ensures)

pub returns : goal.returns
returns c =
    let a = c.args in
    let s = c.in_ok-at.ensures in
    let o = c.optional_length-more.ensures.0 in
    let e = length_digits width a.key in
    let l = long a.key a.v _ o in
    let small : a.key < numbers = omega (arith, c.ranges) in
    let short : length (encode (maybe value) (given a.v)) < numbers = omega (arith, s.is.2) in
    let w = copied_then _ _ _ _ _ _ _ (omega (arith, e)) (omega (arith, e, o, s.is.2, start_length s)) c.number.ensures c.optional.ensures in
    fields_written (pair number (maybe value)) (a.key, given a.v) a.n a.to.now a.kind _ a.d.now l s (small, told a.v short) w
