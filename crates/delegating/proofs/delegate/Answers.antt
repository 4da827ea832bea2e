-- `delegating::delegate` meets its contract: the front, the two bounds and the list, one behind the other.
-- Assumes nothing.
use mathlib.Core.Path.{◌≡◌, refl, sym, ◌∙◌}
use mathlib.Core.List.{List, ◌++◌}
use Prim.Native.Nat.{ℕ, ◌+◌, ◌≤◌, ◌<◌}
use native.Mathlib.Omega.{arith}
use lib.ListN.{length, get_or, length-append}
use Rattle.limits.specs.Limits.{bytes_max}
use Rattle.memory.proofs.Copies.{copied_yes, copied_then, copied_length}
use Rattle.keys.specs.declared.Bound.{Bound}
use Rattle.format.specs.Number.{width, numbers}
use Rattle.format.specs.Format.{Entry, number, maybe, pair, entries, listing, encode}
use Rattle.message.specs.Message.{delegate}
use Rattle.message.specs.Table.{range, key_of}
use Rattle.fronts.proofs.Fronts.{start_length, fields_written, fields_refused, message_written}
use Rattle.delegating.specs.Columns.{entered, Columns}
use Rattle.sizes.specs.Sizes.{sizes}
use Rattle.delegating.proofs.Entered.{listing_size, entered_good, entered_long, above_rising}
use Rattle.std.proofs.lemmas.Result.{err_from_is_err_and}
use Rattle.message.specs.Message.{Datagram}
use Rattle.message.specs.declared.Refused.{Refused}
use Rattle.message.specs.declared.Refused.TheVariants.{NoRoom, Invalid}
use Rattle.message.specs.Answers.{AfterWrite}
use Rattle.delegating.specs.Columns.{AfterDelegate}
use Rattle.std.specs.Prelude.{Err}
use Rattle.delegating.proofs.delegate.Goals as goal

-- the bytes of the bounds and the list
long : (lo hi : Bound) (l : List Entry) (x y z : ℕ) → x ≡ length (encode (maybe number) (key_of lo)) → y ≡ length (encode (maybe number) (key_of hi))
    → z ≡ length (listing l) → x + y + z ≡ length (encode (pair range (entries bytes_max)) ((key_of lo, key_of hi), l))
long lo hi l x y z p q r =
    let a : List ℕ = encode (maybe number) (key_of lo) in
    let b : List ℕ = encode (maybe number) (key_of hi) in
    omega (arith, p, q, r, length-append (a ++ b) (listing l), length-append a b)

-- what is refused though its columns are a list
refused : {ks ats ls bytes : List ℕ} {m : ℕ} {w : Datagram} {d : List ℕ} (e : Refused) (d' : List ℕ) → Columns ks ats ls bytes m → AfterWrite w d (Err e) d'
    → AfterDelegate ks ats ls bytes m w d (Err e) d'
refused NoRoom d' C A = record { is = (C, A.is) }
refused Invalid d' C A = record { is = (A.is.0, λ C g. A.is.1 g) }

pub returns-then-not-rises : goal.returns-then-not-rises
returns-then-not-rises c =
    let a = c.args in
    record { is = (refl, λ C g. c.rises.ensures.no c.if-not-rises.true C.keys (λ j j' p q. above_rising a.keys.now a.ats.now a.lens.now a.bytes.now 0 0 a.m g.1.1.1.1.1.2 j j' (omega arith) p (omega (arith, q)))) }

pub returns-in_default : goal.returns-in_default
returns-in_default c =
    let a = c.args in
    record { is = (refl, λ C g. entered_long a.keys.now a.ats.now a.lens.now a.bytes.now a.m C (c.in_default.ensures.is C.values.fits_lens) g.1.1.1.1.1) }

pub returns-in_err-at : goal.returns-in_err-at
returns-in_err-at c =
    let a = c.args in
    let R = c.rises.ensures.yes c.if-not-rises.false in
    let W = c.inside.ensures.yes c.if-not-inside.false in
    let C : Columns a.keys.now a.ats.now a.lens.now a.bytes.now a.m = record { keys = R.0; values = W } in
    let Z = c.in-Some.ensures.is W.fits_lens in
    let list : List Entry = entered a.keys.now a.ats.now a.lens.now a.bytes.now 0 a.m in
    let z : length (listing list) ≡ width + sizes a.lens.now 0 a.m = listing_size a.keys.now a.ats.now a.lens.now a.bytes.now a.m C in
    let known : a.n < numbers = omega arith in
    let m = long a.lo a.hi list _ _ _ c.bound_length-low.ensures.0 c.bound_length.ensures.0 (Z.0 ∙ sym z) in
    let p = err_from_is_err_and c.from_residual.result c.from_residual.ensures.1 in
    rw (p.1, p.2)
    (refused _ _ C (message_written (delegate a.lo a.hi list) a.n a.to.now 5 ((key_of a.lo, key_of a.hi), list) a.d.now known (omega arith) refl (fields_refused (pair range (entries bytes_max)) ((key_of a.lo, key_of a.hi), list) a.n a.to.now 5 _ a.d.now m _ c.in_err-at.ensures)))

pub returns : goal.returns
returns c =
    let a = c.args in
    let s = c.in_ok-at.ensures in
    let R = c.rises.ensures.yes c.if-not-rises.false in
    let W = c.inside.ensures.yes c.if-not-inside.false in
    let C : Columns a.keys.now a.ats.now a.lens.now a.bytes.now a.m = record { keys = R.0; values = W } in
    let Z = c.in-Some.ensures.is W.fits_lens in
    let list : List Entry = entered a.keys.now a.ats.now a.lens.now a.bytes.now 0 a.m in
    let z : length (listing list) ≡ width + sizes a.lens.now 0 a.m = listing_size a.keys.now a.ats.now a.lens.now a.bytes.now a.m C in
    let p = c.bound_length-low.ensures.0 in
    let q = c.bound_length.ensures.0 in
    let lo : List ℕ = encode (maybe number) (key_of a.lo) in
    let hi : List ℕ = encode (maybe number) (key_of a.hi) in
    let both : length (lo ++ hi) ≡ length lo + length hi = length-append lo hi in
    let known : a.n < numbers = omega (arith, c.ranges) in
    let few : a.m < numbers = omega (arith, c.ranges) in
    let keys : (i : ℕ) → get_or a.keys.now i 0 < numbers = λ i. omega (arith, c.type_inv.keys i) in
    let short : length a.bytes.now < numbers = omega (arith, c.ranges, c.well_formed) in
    let x = copied_then lo hi _ _ _ _ _ (omega (arith, p)) (omega (arith, p, q, s.is.2, start_length s)) c.bound.ensures.0 c.bound-2.ensures.0 in
    let l = copied_length (lo ++ hi) _ _ _ (omega (arith, p, q, both, s.is.2, start_length s)) x in
    let at : ℕ = c.in_ok-at.at + (c.bound_length-low.result + c.bound_length.result) in
    let d₃ : List ℕ = c.bound-2.new.d in
    let fit : at + length (listing list) ≤ length d₃ = omega (arith, l, z, p, q, Z.0, s.is.2, start_length s) in
    let y = copied_yes (listing list) d₃ at _ fit c.list.ensures in
    let w = copied_then (lo ++ hi) (listing list) _ _ _ _ _ (omega (arith, p, q, both)) (omega (arith, z, Z.0, p, q, both, s.is.2, start_length s)) x y in
    let g = entered_good a.keys.now a.ats.now a.lens.now a.bytes.now a.m C R.1 keys short few (omega (arith, Z.0, Z.1)) in
    let m = long a.lo a.hi list _ _ _ p q (Z.0 ∙ sym z) in
    record { is = (C, (message_written (delegate a.lo a.hi list) a.n a.to.now 5 ((key_of a.lo, key_of a.hi), list) a.d.now known (omega arith) refl (fields_written (pair range (entries bytes_max)) ((key_of a.lo, key_of a.hi), list) a.n a.to.now 5 _ a.d.now m s ((c.bound.ensures.1, c.bound-2.ensures.1), g) w)).is) }
