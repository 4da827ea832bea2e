-- Laws of lists: what is on them, and what a list of sends is as a set.
-- Assumes nothing.
use mathlib.Core.Path.{◌≡◌, refl, sym, ap, ◌∙◌, subst}
use mathlib.Core.Bool.{Bool, true, false, ◌||◌, false≢true}
use mathlib.Core.List.{List, [], ◌∷◌}
use mathlib.Core.Logic.{inl, inr, ⊎_elim}
use Rattle.message.specs.Message.{Address, Datagram}
use Rattle.message.specs.Message.{message as messageOf, ack as ack_of}
use Rattle.decoding.specs.Decode.{same}
use Rattle.decoding.proofs.Decided.{same_true, same_refl}
use Rattle.protocol.specs.Address.{among}
use Rattle.protocol.specs.Delivery.{Packet as Handed}
use Rattle.world.specs.Single.{Among}
use Rattle.upstream.specs.Messages.{SingleMessage, message, ack, invalid, Packet, Empty, Only}
use Rattle.upstream.specs.Hosts.{sent_list, sent, AllSends, NoInvalidSends}
use Rattle.upstream.specs.View.{view_datagram, CarriesAll, sending}

-- ---- on a list

pub among_on : (a : Address) (l : List Address) → among a l ≡ true → Among a l
among_on a [] e = absurd (false≢true e)
among_on a (b ∷ l) e = go (same a b) refl e (among_on a l)
  where
    go : (t : Bool) → same a b ≡ t → t || among a l ≡ true → (among a l ≡ true → Among a l) → Among a (b ∷ l)
    go true q w f = inl (same_true a b q)
    go false q w f = inr (f w)

pub on_among : (a : Address) (l : List Address) → Among a l → among a l ≡ true
on_among a [] o = elim o [ ]
on_among a (b ∷ l) (inl e) = subst (λ (z : Address). same a z || among a l ≡ true) e (rw (same_refl a) refl)
on_among a (b ∷ l) (inr o) = go (same a b) (on_among a l o)
  where
    go : (t : Bool) → among a l ≡ true → t || among a l ≡ true
    go true w = refl
    go false w = w

-- ---- sends

pub sent_sending : (l : List Packet) → sent_list (sending l) ≡ l
sent_sending [] = refl
sent_sending (p ∷ l) = ap (λ (m : List Packet). p ∷ m) (sent_sending l)

pub all_sends : (l : List Packet) → AllSends (sending l)
all_sends [] = tt
all_sends (p ∷ l) = all_sends l

pub none_sent : Empty (sent [])
none_sent p o = o

pub one_sent : (q : Packet) → Only q (λ p. Among p (q ∷ []))
one_sent q p = ((λ o. ⊎_elim (λ e. e) (λ w. absurd w) o), λ e. inl e)

-- ---- what is handed out is never Invalid

is_invalid : SingleMessage → Bool
is_invalid (message s d m) = false
is_invalid (ack n) = false
is_invalid invalid = true

not_invalid : (d : Datagram) → view_datagram d ≡ invalid → ⊥
unfolding is_invalid
not_invalid (messageOf n a b) e = false≢true (ap is_invalid e)
not_invalid (ack_of n) e = false≢true (ap is_invalid e)

carried_sound : (me : Address) (l : List Handed) (m : List Packet) → CarriesAll me l m → (q : Packet) → Among q m → q.msg ≡ invalid → ⊥
carried_sound me [] [] C q o e = o
carried_sound me [] (p ∷ m) C q o e = C
carried_sound me (p ∷ l) [] C q o e = C
carried_sound me (p ∷ l) (r ∷ m) C q (inl w) e = not_invalid C.0.2.0 (sym C.0.2.2 ∙ ap (λ (z : Packet). z.msg) (sym w) ∙ e)
carried_sound me (p ∷ l) (r ∷ m) C q (inr o) e = carried_sound me l m C.1 q o e

pub sound : (me : Address) (l : List Handed) (m : List Packet) → CarriesAll me l m → NoInvalidSends (sending m)
sound me l m C q o e = carried_sound me l m C q (subst (λ (z : List Packet). Among q z) (sent_sending m) o) e
