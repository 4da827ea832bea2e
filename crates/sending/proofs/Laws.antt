-- The laws of sending, whatever the body is: the peer's name, the place, a writer that is lent the place's bytes, and the message posted are a
-- message that is sent, and each refusal on the way is a refusal to send.
-- Assumes nothing.
use mathlib.Core.Path.{◌≡◌, refl, sym, ap, ap₂, ◌∙◌, subst}
use mathlib.Core.Bool.{true, false, true≢false, false≢true}
use mathlib.Core.List.{List}
use Prim.Native.Nat.{ℕ, ◌+◌, ◌-◌, ◌*◌, ◌≤◌, ◌<◌}
use native.Mathlib.Omega.{arith}
use lib.ListN.{length, drop, length-append}
use borrow.Rule.Slice.PartMut.{put_mid, mid_of, mid_len, put_same}
use Rattle.memory.specs.Bytes.{part, placed}
use Rattle.message.specs.Message.{Address, Body, Datagram, message}
use Rattle.message.specs.Table.{written, Valid}
use Rattle.message.specs.Answers.{AfterWrite}
use Rattle.message.specs.declared.Refused.{Refused}
use Rattle.message.specs.declared.Refused.TheVariants.{NoRoom, Invalid}
use Rattle.std.specs.Prelude.{Some, None, Ok, Err}
use Rattle.peers.specs.Names.{Keeps as KeepsNames, AfterName}
use Rattle.delivery.specs.Post.{Post, posted}
use Rattle.delivery.specs.Memory.{Keeps as KeepsPost, Standing}
use Rattle.posting.specs.Answers.{AfterPost}
use Rattle.posting.proofs.Laws.{mid_placed, place_fits}
use Rattle.sending.specs.Answers.{AfterSlot, Given, AfterSend}

-- ---- the place

-- bytes that were written at the front of what was lent, and left it as long as it was, fit it
fits_front : (d bytes : List ℕ) → length (placed d 0 bytes) ≡ length d → length bytes ≤ length d
fits_front d bytes e = omega (arith, e, length-append bytes (drop (0 + length bytes) d))

module _ (mail : List ℕ) (size p from to : ℕ) (S : AfterSlot (length mail) size p (Some (from, to))) where
  size_is : length (mid_of from (to - from) mail) ≡ size
  size_is = mid_len from to mail S.is.2 ∙ omega (arith, S.is.1)

  -- a writer that is lent the place, and left it as long as it was, has written no more than it holds, and there
  module _ (bytes lent : List ℕ) (long : length lent ≡ length (mid_of from (to - from) mail)) (e : lent ≡ placed (mid_of from (to - from) mail) 0 bytes) where
    fits_place : length bytes ≤ size
    fits_place = omega (arith, fits_front (mid_of from (to - from) mail) bytes (sym (ap length e) ∙ long), size_is)

    in_place : put_mid from (to - from) mail lent ≡ placed mail (p * size) bytes
    in_place =
        mid_placed from (to - from) mail bytes lent (omega (arith, S.is.1, S.is.2)) (omega (arith, S.is.1, fits_place)) e
        ∙ ap (λ (k : ℕ). placed mail k bytes) S.is.0

-- ---- sent or not

module _ {lens names : List ℕ} {width : ℕ} {counts places mail : List ℕ} {size peer p x : ℕ} {Q : ℕ → Type 0} {b : (ℕ → Address) → Body} where
  -- a refusal that has a reason, and left the mail as it was
  refused : {mail' : List ℕ} → mail' ≡ mail
      → ((n : ℕ) (N : ℕ → Address) (P : Post) → Given lens names width counts places mail size peer p x Q n N P
      → Valid (message x (N peer) (b N)) → length (written (message x (N peer) (b N))) ≤ size → ⊥)
      → AfterSend lens names width counts places mail size peer p x Q b false counts places mail'
  refused e why = record { sent = λ f. absurd (false≢true f); unsent = λ f. (refl, refl, e, why) }

  -- there is no such peer
  pub no_name : AfterName lens names width peer None → AfterSend lens names width counts places mail size peer p x Q b false counts places mail
  no_name A = refused refl (λ n N P G v l. A.is n N G.names_kept G.peer_in)

  -- there is no such peer as the body names
  pub no_other : {k : ℕ} → AfterName lens names width k None → ((n : ℕ) → Q n → k < n)
      → AfterSend lens names width counts places mail size peer p x Q b false counts places mail
  no_other A known = refused refl (λ n N P G v l. A.is n N G.names_kept (known n G.asked))

  -- there is no such place
  pub no_place : AfterSlot (length mail) size p None → AfterSend lens names width counts places mail size peer p x Q b false counts places mail
  no_place S =
      refused refl (λ n N P G v l.
      let K = G.post_kept in
      absurd (omega (arith, S.is K.wide, place_fits p _ size (length mail) G.place_open.within K.fits_mail)))

  -- the message is written, to the peer's address and with the body that is to be sent, into the place's bytes
  module _ {a z from to : ℕ} {body : Body} (A : AfterName lens names width peer (Some (a, z))) (S : AfterSlot (length mail) size p (Some (from, to)))
      (same : (n : ℕ) (N : ℕ → Address) → KeepsNames lens names width n N → Q n → body ≡ b N) where
    same_message : {n : ℕ} {N : ℕ → Address} {P : Post} → Given lens names width counts places mail size peer p x Q n N P
        → message x (part names a (z - a)) body ≡ message x (N peer) (b N)
    same_message {n} {N} G = ap₂ (message x) (A.is.2 n N G.names_kept G.peer_in) (same n N G.names_kept G.asked)

    -- it is too long, or may not be written
    pub unwritten_if : (e : Refused) {lent : List ℕ} → lent ≡ mid_of from (to - from) mail
        → ((n : ℕ) → Q n → AfterWrite (message x (part names a (z - a)) body) (mid_of from (to - from) mail) (Err e) lent)
        → AfterSend lens names width counts places mail size peer p x Q b false counts places (put_mid from (to - from) mail lent)
    unwritten_if NoRoom e w =
        refused (ap (put_mid from (to - from) mail) e ∙ put_same from (to - from) mail) (λ n N P G v l.
        absurd (omega (arith, (w n G.asked).is.1, l, size_is mail size p from to S, ap (λ (m : Datagram). length (written m)) (same_message G))))
    unwritten_if Invalid e w =
        refused (ap (put_mid from (to - from) mail) e ∙ put_same from (to - from) mail) (λ n N P G v l.
        (w n G.asked).is.1 (subst Valid (sym (same_message G)) v))

    pub unwritten : (e : Refused) {lent : List ℕ} → AfterWrite (message x (part names a (z - a)) body) (mid_of from (to - from) mail) (Err e) lent
        → AfterSend lens names width counts places mail size peer p x Q b false counts places (put_mid from (to - from) mail lent)
    unwritten NoRoom w = unwritten_if NoRoom w.is.0 (λ n q. w)
    unwritten Invalid w = unwritten_if Invalid w.is.0 (λ n q. w)

    -- it is written, and posted
    pub sent : {lent counts' places' : List ℕ} {len : ℕ} → length lent ≡ length (mid_of from (to - from) mail)
        → AfterWrite (message x (part names a (z - a)) body) (mid_of from (to - from) mail) (Ok len) lent → AfterPost counts places peer p x len counts' places'
        → AfterSend lens names width counts places mail size peer p x Q b true counts' places' (put_mid from (to - from) mail lent)
    sent {lent} {counts'} {places'} long w posts =
        let bytes = written (message x (part names a (z - a)) body) in
        let short = fits_place mail size p from to S bytes lent long w.is.2 in
        record {
          sent = λ f n N P G.
              let k = posts.is mail size n P G.post_kept G.peer_in G.place_open G.number_is bytes w.is.1 (omega (arith, w.is.1, short)) in
              rw (in_place mail size p from to S bytes lent long w.is.2) (subst
              (λ (m : Datagram). KeepsPost counts' places' (placed mail (p * size) bytes) size n (posted peer (written m) P)
              × Standing places' (placed mail (p * size) bytes) size p peer x (written m))
              (same_message G) k);
          unsent = λ f. absurd (true≢false f);
        }
