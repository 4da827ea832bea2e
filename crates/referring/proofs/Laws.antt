-- What was picked is what a function that sends is given; and a Redirect that was sent is the definition's step.
-- Assumes nothing.
use mathlib.Core.Path.{◌≡◌, refl, sym, ap, ◌∙◌, subst}
use mathlib.Core.Bool.{Bool, true, false}
use mathlib.Core.List.{List}
use mathlib.Core.Option.{none}
use Prim.Native.Nat.{ℕ, ◌<◌}
use native.Mathlib.Omega.{arith}
use Rattle.limits.specs.Limits.{numbers}
use Rattle.message.specs.Message.{Address, redirect}
use Rattle.sending.specs.Answers.{Given, AfterSend}
use Rattle.protocol.specs.State.{Host, Letter}
use Rattle.protocol.specs.Owners.{owner_of}
use Rattle.protocol.specs.Process.{redirecting, answering, free}
use Rattle.protocol.specs.Delivery.{numbered, redirected}
use Rattle.hosts.specs.declared.State.{State}
use Rattle.hosts.specs.declared.Done.{Done}
use Rattle.hosts.specs.declared.Processed.TheVariants.{Redirected}
use Rattle.hosts.specs.Memory.{Memory, memory}
use Rattle.hosts.specs.Keeps.{Core}
use Rattle.hosts.specs.Answers.{emptied, sent_or, Heard, Does, AfterRow}
use Rattle.hosts.proofs.Core.{mailed, name_short, answered}
use Rattle.hosts.proofs.Sizes.{redirect_good, redirect_fits}
use Rattle.referring.specs.Answers.{Picked, Owned, AfterRefer}

module _ (m : Memory) (k : State) (p x : ℕ) (h : Host) (l : Letter) (C : Core m k h) (H : Heard m k l) (R : Picked m k p x h) where
  pub given : (Q : ℕ → Type 0) → Q k.peers
      → Given m.name_lens m.names k.width m.counts m.places m.mail k.size k.from p x Q k.peers C.N C.P
  given Q q = record {
    names_kept = C.names_kept;
    post_kept = C.post_kept;
    peer_in = H.from_in;
    place_open = R.place_open;
    number_is = R.number_is C;
    asked = q;
  }

module _ (m : Memory) (k : State) (p x key owner : ℕ) (small : x < numbers) (key-small : key < numbers) (counts places mail : List ℕ) where
  refers : (sent : Bool)
      → AfterSend m.name_lens m.names k.width m.counts m.places m.mail k.size k.from p x (λ n. owner < n)
      (λ N. redirect key (N owner))
      sent
      counts
      places
      mail
      → AfterRow m k (Owned m k p x key owner) (λ h l. redirecting h l key) (sent_or k sent (Redirected p)) (mailed m counts places mail)
  refers true S = record {
    freed = refl;
    is = λ h l C H R.
        let e : owner ≡ C.f key = R.owner_is C in
        let i : owner < k.peers = omega (arith, e, C.says.owner_in key, C.says.few) in
        let A = S.sent refl k.peers C.N C.P (given m k p x h l C H R.picked (λ n. owner < n) i) in
        let o : C.N owner ≡ owner_of h.owners key = ap C.N e ∙ C.says.owner_is key in
        subst (λ (a : Address). Does (mailed m counts places mail) (emptied k) (Redirected p) (answering (numbered h l.from) (free h) l.from (redirect key a) redirected none)) o
        (answered m k h C k.from H.from_in l.from H.from_is x (R.picked.number_is C) small (redirect key (C.N owner)) p counts places mail A.0 A.1
        (Redirected p)
        none
        refl);
  }
  refers false S = record {
    freed = refl;
    is = λ h l C H R.
        let e : owner ≡ C.f key = R.owner_is C in
        let i : owner < k.peers = omega (arith, e, C.says.owner_in key, C.says.few) in
        let s = name_short m k h C in
        absurd ((S.unsent refl).3 k.peers C.N C.P (given m k p x h l C H R.picked (λ n. owner < n) i)
        (redirect_good k.width k.size C.sized x small (C.N k.from) (s k.from H.from_in) key (C.N owner) key-small (s owner i))
        (redirect_fits k.width k.size C.sized x small (C.N k.from) (s k.from H.from_in) key (C.N owner) (s owner i)));
  }

-- the contract, from what the writer of the Redirect answers
pub referred : {name_lens names counts places mail : List ℕ} {k : State} {p x key owner : ℕ} {counts' places' mail' : List ℕ} {sent : Bool} {r : Done}
    → x < numbers → key < numbers
    → AfterSend name_lens names k.width counts places mail k.size k.from p x (λ n. owner < n) (λ N. redirect key (N owner)) sent counts' places' mail'
    → r ≡ sent_or k sent (Redirected p) → AfterRefer name_lens names counts places mail k p x key owner r counts' places' mail'
referred {name_lens} {names} {counts} {places} {mail} {k} {p} {x} {key} {owner} {counts'} {places'} {mail'} {sent} {r} small key-small S e = record {
  is = λ lows owners keys slots lens values.
      let m = memory lows owners keys slots lens values name_lens names counts places mail in
      subst (λ (d : Done). AfterRow m k (Owned m k p x key owner) (λ h l. redirecting h l key) d (mailed m counts' places' mail')) (sym e)
      (refers m k p x key owner small key-small counts' places' mail' sent S);
}
