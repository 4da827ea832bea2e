-- Datagrams that wait for one address, as bytes and as bodies of messages.
-- Assumes nothing.
use mathlib.Core.Path.{◌≡◌, refl, sym, ap, ap₂, ◌∙◌, subst}
use mathlib.Core.List.{List, [], ◌∷◌}
use mathlib.Core.Option.{Option, none, some}
use Prim.Native.Nat.{ℕ, zero, suc, ◌+◌, ◌<◌}
use native.Mathlib.Omega.{arith}
use lib.ListN.{length, get_or}
use Rattle.message.specs.Message.{Address, Body, get, Datagram, message, ack}
use Rattle.message.specs.Table.{written, Valid}
use Rattle.decoding.specs.Decode.{read}
use Rattle.decoding.proofs.Laws.{read_written}
use Rattle.hosts.specs.Says.{datagrams}
use Rattle.audits_mail.specs.Answers.{MessageTo}
use Rattle.auditing.specs.Sendable.{AllValid}

-- the body of a message; where there is none any body will do
abbrev body_in : Option Datagram → Body
body_in none = get 0
body_in (some (message x a b)) = b
body_in (some (ack x)) = get 0

-- the bodies of the messages that the datagrams are
abbrev pub bodies : List (List ℕ) → List Body
bodies [] = []
bodies (s ∷ l) = body_in (read s) ∷ bodies l

body_is : (x : ℕ) (a : Address) (s : List ℕ) → MessageTo x a s
    → (s ≡ written (message x a (body_in (read s)))) × Valid (message x a (body_in (read s)))
body_is x a s M =
    let e : M.0 ≡ body_in (read s) = sym (ap body_in (ap read (sym M.2) ∙ read_written (message x a M.0) M.1)) in
    (sym M.2 ∙ ap (λ (c : Body). written (message x a c)) e, subst (λ (c : Body). Valid (message x a c)) e M.1)

-- datagrams that are messages, with the numbers from x on, are those of their bodies
pub bodies_are : (x : ℕ) (a : Address) (l : List (List ℕ)) → ((j : ℕ) → j < length l → MessageTo (x + j) a (get_or l j []))
    → (l ≡ datagrams x a (bodies l)) × AllValid x a (bodies l)
bodies_are x a [] M = (refl, tt)
bodies_are x a (s ∷ l) M =
    let z : x + 0 ≡ x = omega arith in
    let u = body_is x a s (subst (λ (y : ℕ). MessageTo y a s) z (M 0 (omega arith))) in
    let more : (j : ℕ) → j < length l → MessageTo (suc x + j) a (get_or l j []) =
    λ j q. let e : x + suc j ≡ suc x + j = omega arith in subst (λ (y : ℕ). MessageTo y a (get_or l j [])) e (M (suc j) (omega arith)) in
    let r = bodies_are (suc x) a l more in
    (ap₂ (λ (t : List ℕ) (w : List (List ℕ)). t ∷ w) u.0 r.0, (u.1, r.1))

-- bodies that may be written are datagrams that are messages
pub datagrams_are : (x : ℕ) (a : Address) (l : List Body) → AllValid x a l → (j : ℕ) → j < length l → MessageTo (x + j) a (get_or (datagrams x a l) j [])
datagrams_are x a [] h j q = absurd (omega arith)
datagrams_are x a (b ∷ l) h zero q =
    let z : x ≡ x + 0 = omega arith in
    subst (λ (y : ℕ). MessageTo y a (written (message x a b))) z (b, h.0, refl)
datagrams_are x a (b ∷ l) h (suc j) q =
    let e : suc x + j ≡ x + suc j = omega arith in
    subst (λ (y : ℕ). MessageTo y a (get_or (datagrams (suc x) a l) j [])) e (datagrams_are (suc x) a l h.1 j (omega arith))
