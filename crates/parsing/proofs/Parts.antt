-- A datagram is used up: what takes all of its bytes is written as they are, and bytes that are left over are no message's.
-- Assumes nothing.
use mathlib.Core.Path.{◌≡◌, sym, ap, ◌∙◌}
use mathlib.Core.List.{List, [], ◌++◌, append-nil}
use Prim.Native.Nat.{ℕ, ◌≤◌, ◌<◌}
use native.Mathlib.Omega.{arith}
use lib.ListN.{length, drop, length-drop}
use lib.Seq.{drop-length}
use Rattle.format.specs.Format.{Of, encode}
use Rattle.format.specs.Place.{Stands, Lacks}
use Rattle.format.proofs.Reading.{only}
use Rattle.message.specs.Message.{Datagram}
use Rattle.message.specs.Table.{datagram, datagram_value, written, Valid}

-- what takes all the bytes is written as they are
pub whole : {s : List ℕ} {v : Of datagram} {next : ℕ} → Stands datagram s 0 v next → length s ≤ next → encode datagram v ≡ s
whole {s} {v} {next} k h =
    let e : next ≡ length s = omega (arith, k.within) in
    sym (k.is ∙ ap (λ (n : ℕ). encode datagram v ++ drop n s) e ∙ ap (λ (l : List ℕ). encode datagram v ++ l) (drop-length s) ∙ append-nil (encode datagram v))

pub none : {s : List ℕ} → Lacks datagram s 0 → (m : Datagram) → Valid m → written m ≡ s → ⊥
none {s} k m g e = k.no (datagram_value m) g [] (sym e ∙ sym (append-nil (written m)))

-- bytes that a message leaves over are no other message's
pub trailing : {s : List ℕ} {v : Of datagram} {next : ℕ} → Stands datagram s 0 v next → next < length s → (m : Datagram) → Valid m → written m ≡ s → ⊥
trailing {s} {v} {next} k h m g e =
    let u = only k (datagram_value m) g [] (sym e ∙ sym (append-nil (written m))) in
    omega (arith, ap length u.1, length-drop next s)
