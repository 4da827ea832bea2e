-- What became of a message tells what upstream asks of it: whether it is new, and whether it was taken before.
-- Assumes nothing.
use mathlib.Core.Path.{◌≡◌, refl, sym, ap, ◌∙◌, subst}
use mathlib.Core.Bool.{Bool, true, false, false≢true}
use mathlib.Core.List.{List}
use mathlib.Core.Logic.{◌↔◌}
use mathlib.Core.Option.{Option, none, some}
use Prim.Native.Nat.{ℕ, suc, ◌≤◌}
use native.Mathlib.Omega.{arith}
use lib.Dec.{eqb, leb}
use borrow.Author.Tests.{eqb-true, eqb-false, leb-true, leb-false}
use Rattle.message.specs.Message.{Address, Body}
use Rattle.message.specs.Message.{message as messageOf}
use Rattle.decoding.specs.Decode.{read}
use Rattle.decoding.proofs.Decided.{same_refl}
use Rattle.protocol.specs.State.{Host, Letter}
use Rattle.protocol.specs.Delivery.{Step, Outcome, full, invalid, elsewhere, taken, unreceived, again, future, arrived, stale, idle, stuck, replied, redirected, dropped, unnumbered, accepted, handed, resent, waits}
use Rattle.protocol.specs.Receive.{on_number, on_message, on_datagram, on_room, receive}
use Rattle.upstream.specs.Messages.{message}
use Rattle.upstream.specs.Delivery.{New, ShouldAck}
use Rattle.upstream.specs.View.{view_body, view_delivery}
use Rattle.upstream.proofs.Views.{last_of_lem}

-- the message is new: it was taken, or there might have been no room for it
abbrev pub new_of : Outcome → Bool
new_of full = false
new_of invalid = false
new_of elsewhere = false
new_of taken = true
new_of unreceived = true
new_of again = false
new_of future = false
new_of arrived = false
new_of stale = false
new_of idle = false
new_of stuck = false
new_of replied = false
new_of redirected = false
new_of dropped = false
new_of unnumbered = false
new_of accepted = false
new_of handed = false
new_of resent = false
new_of waits = false

-- it was taken before
abbrev pub again_of : Outcome → Bool
again_of full = false
again_of invalid = false
again_of elsewhere = false
again_of taken = false
again_of unreceived = false
again_of again = true
again_of future = false
again_of arrived = false
again_of stale = false
again_of idle = false
again_of stuck = false
again_of replied = false
again_of redirected = false
again_of dropped = false
again_of unnumbered = false
again_of accepted = false
again_of handed = false
again_of resent = false
again_of waits = false

module _ (h : Host) (a : Address) (n : ℕ) (b : Body) where
  is_next : n ≡ suc (h.received a) → New (view_delivery h) a (message n h.me (view_body b))
  is_next e = let u = last_of_lem (h.received a) in omega (arith, e, u)

  next_is : New (view_delivery h) a (message n h.me (view_body b)) → n ≡ suc (h.received a)
  next_is w = let u = last_of_lem (h.received a) in omega (arith, w, u)

  was_before : n ≤ h.received a → ShouldAck (view_delivery h) a (message n h.me (view_body b))
  was_before e = let u = last_of_lem (h.received a) in omega (arith, e, u)

  before_was : ShouldAck (view_delivery h) a (message n h.me (view_body b)) → n ≤ h.received a
  before_was w = let u = last_of_lem (h.received a) in omega (arith, w, u)

  new_number : (new old roomy : Bool) → eqb n (suc (h.received a)) ≡ new
      → (new_of (on_number new old roomy h a n b).outcome ≡ true) ↔ New (view_delivery h) a (message n h.me (view_body b))
  new_number true old true e = ((λ t. is_next (eqb-true n (suc (h.received a)) e)), λ w. refl)
  new_number true old false e = ((λ t. is_next (eqb-true n (suc (h.received a)) e)), λ w. refl)
  new_number false true roomy e = ((λ t. absurd (false≢true t)), λ w. absurd (eqb-false n (suc (h.received a)) e (next_is w)))
  new_number false false roomy e = ((λ t. absurd (false≢true t)), λ w. absurd (eqb-false n (suc (h.received a)) e (next_is w)))

  again_number : (new old roomy : Bool) → eqb n (suc (h.received a)) ≡ new → leb n (h.received a) ≡ old
      → (again_of (on_number new old roomy h a n b).outcome ≡ true) ↔ ShouldAck (view_delivery h) a (message n h.me (view_body b))
  again_number true old true e o = let q = eqb-true n (suc (h.received a)) e in ((λ t. absurd (false≢true t)), λ w. let u = before_was w in absurd (omega (arith, q, u)))
  again_number true old false e o = let q = eqb-true n (suc (h.received a)) e in ((λ t. absurd (false≢true t)), λ w. let u = before_was w in absurd (omega (arith, q, u)))
  again_number false true roomy e o = ((λ t. was_before (leb-true n (h.received a) o)), λ w. refl)
  again_number false false roomy e o = let q = leb-false n (h.received a) o in ((λ t. absurd (false≢true t)), λ w. let u = before_was w in absurd (omega (arith, q, u)))

  -- a message to this host, while the room is free
  module _ (roomy : Bool) (s : List ℕ) (free : h.room ≡ none) (is : read s ≡ some (messageOf n h.me b)) where
    on_number_lem : receive roomy h a s ≡ on_number (eqb n (suc (h.received a))) (leb n (h.received a)) roomy h a n b
    on_number_lem =
        ap (λ (o : Option Letter). on_room o roomy h a s) free ∙ ap (on_datagram roomy h a) is
        ∙ ap (λ (t : Bool). on_message t roomy h a n b) (same_refl h.me)

    -- new_impl: it says that the message is new exactly if it is
    pub new_told : (new_of (receive roomy h a s).outcome ≡ true) ↔ New (view_delivery h) a (message n h.me (view_body b))
    new_told = subst (λ (z : Step). (new_of z.outcome ≡ true) ↔ New (view_delivery h) a (message n h.me (view_body b))) (sym on_number_lem)
        (new_number (eqb n (suc (h.received a))) (leb n (h.received a)) roomy refl)

    -- maybe_ack_packet_impl, of a message that is not new: an Ack goes out again exactly if it was taken before
    pub again_told : (again_of (receive roomy h a s).outcome ≡ true) ↔ ShouldAck (view_delivery h) a (message n h.me (view_body b))
    again_told = subst (λ (z : Step). (again_of z.outcome ≡ true) ↔ ShouldAck (view_delivery h) a (message n h.me (view_body b))) (sym on_number_lem)
        (again_number (eqb n (suc (h.received a))) (leb n (h.received a)) roomy refl refl)
