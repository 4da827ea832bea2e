-- What a Get leads to: the Reply with what the table has, or the Redirect.
-- Assumes nothing.
use mathlib.Core.Path.{◌≡◌, refl, sym, ap, ◌∙◌, subst}
use mathlib.Core.Bool.{Bool, true, false}
use mathlib.Core.List.{List}
use mathlib.Core.Option.{Option, none, some}
use Prim.Native.Nat.{ℕ, ◌+◌, ◌-◌, ◌<◌}
use lib.ListN.{take, drop}
use Rattle.memory.proofs.Parts.{part_taken}
use Rattle.message.specs.Message.{reply}
use Rattle.records.specs.Answers.{Got}
use Rattle.sending.specs.Answers.{AfterSend}
use native.Mathlib.Omega.{arith}
use Rattle.limits.specs.Limits.{numbers}
use Rattle.message.specs.Message.{Address}
use Rattle.delegation.specs.Map.{Owner}
use Rattle.decoding.specs.Decode.{same}
use Rattle.decoding.proofs.Decided.{same_refl}
use Rattle.records.proofs.Laws.{keeps_short}
use Rattle.picking.specs.declared.Refused.{Refused}
use Rattle.picking.specs.declared.Refused.TheVariants.{NoNumber, NoPlace}
use Rattle.std.specs.Prelude.{Ok, Err, Some, None}
use Rattle.picking.specs.Answers.{AfterPick}
use Rattle.protocol.specs.State.{Host, Letter}
use Rattle.protocol.specs.Owners.{owner_of}
use Rattle.protocol.specs.Records.{look}
use Rattle.protocol.specs.Process.{on_get, answering, free}
use Rattle.protocol.specs.Delivery.{numbered, replied, got}
use Rattle.hosts.specs.declared.State.{State}
use Rattle.hosts.specs.declared.Done.{Done}
use Rattle.hosts.specs.declared.Processed.TheVariants.{Replied, Dropped, Unnumbered}
use Rattle.hosts.specs.Memory.{Memory}
use Rattle.hosts.specs.Keeps.{Core}
use Rattle.hosts.specs.Answers.{emptied, sent_or, Heard, Does}
use Rattle.protocol.proofs.Addresses.{same_false}
use Rattle.hosts.proofs.Sizes.{ShortValue, reply_good, reply_fits}
use Rattle.hosts.proofs.Totals.{all_taken}
use Rattle.hosts.proofs.Core.{mailed, name_short, answered, unanswered}
use Rattle.referring.specs.Answers.{AfterRefer}
use Rattle.referring.proofs.Laws.{given as was-given}
use Rattle.getting.specs.Answers.{AfterValue, AfterRespond, AfterGet}

module _ {keys slots lens values : List ℕ} {entries : ℕ} {name_lens names : List ℕ} {width : ℕ} {counts places mail : List ℕ}
    {size peer p x key : ℕ} {r : Bool} {counts' places' mail' : List ℕ} where
  pub value_found : {at len : ℕ} → Got keys slots lens values entries key (Some (at, len))
      → AfterSend name_lens names width counts places mail size peer p x (λ n. Unit) (λ N. reply key (some (take (at + len - at) (drop at values)))) r counts' places' mail'
      → AfterValue keys slots lens values entries name_lens names width counts places mail size peer p x key r counts' places' mail'
  value_found {at} {len} G S = record {
    is = λ T K.
        subst (λ (v : Option (List ℕ)). AfterSend name_lens names width counts places mail size peer p x (λ n. Unit) (λ N. reply key v) r counts' places' mail')
        (ap some (part_taken values at len) ∙ sym (G.is.1 T K)) S;
  }

  pub value_none : Got keys slots lens values entries key None
      → AfterSend name_lens names width counts places mail size peer p x (λ n. Unit) (λ N. reply key none) r counts' places' mail'
      → AfterValue keys slots lens values entries name_lens names width counts places mail size peer p x key r counts' places' mail'
  value_none G S = record {
    is = λ T K.
        subst (λ (v : Option (List ℕ)). AfterSend name_lens names width counts places mail size peer p x (λ n. Unit) (λ N. reply key v) r counts' places' mail')
        (sym (G.is T K)) S;
  }

-- ---- the answer

module _ (m : Memory) (k : State) (key : ℕ) where
  -- whether the key is the host's own
  pub mine : (owner : ℕ) → Owner m.lows m.owners k.bounds key owner → owner ≡ k.me → (h : Host) → Core m k h
      → same (owner_of h.owners key) h.me ≡ true
  mine owner O e h C =
      let q : owner_of h.owners key ≡ h.me =
      sym (C.says.owner_is key) ∙ ap C.N (sym (O.is C.f C.map_kept) ∙ e) ∙ C.says.me_is in
      subst (λ (a : Address). same a h.me ≡ true) (sym q) (same_refl h.me)

  pub other : (owner : ℕ) → Owner m.lows m.owners k.bounds key owner → (owner ≡ k.me → ⊥) → (h : Host) → Core m k h
      → same (owner_of h.owners key) h.me ≡ false
  other owner O ne h C =
      same_false (owner_of h.owners key) h.me
      (λ e. ne (O.is C.f C.map_kept
      ∙ C.names_kept.distinct (C.f key) k.me (omega (arith, C.says.owner_in key, C.says.few)) (omega (arith, C.says.own, C.says.few))
      (C.says.owner_is key ∙ e ∙ sym C.says.me_is)))

  short_value : (h : Host) (C : Core m k h) → ShortValue (C.T key)
  short_value h C = go (C.T key) refl
    where
      go : (v : Option (List ℕ)) → C.T key ≡ v → ShortValue v
      go none e = tt
      go (some v) e = keeps_short _ _ _ _ _ C.T C.table_kept key v e

module _ {m : Memory} {k : State} {key p x : ℕ} where
  pub refers : {counts places mail : List ℕ} {owner : ℕ} {r : Done} → Owner m.lows m.owners k.bounds key owner → (owner ≡ k.me → ⊥)
      → AfterRefer m.name_lens m.names m.counts m.places m.mail k p x key owner r counts places mail
      → AfterRespond m k key p x r (mailed m counts places mail)
  refers {counts} {places} {mail} {owner} {r} O ne R = record {
    is = record {
      freed = (R.is m.lows m.owners m.keys m.slots m.lens m.values).freed;
      is = λ h l C H P.
          subst (λ (t : Bool). Does (mailed m counts places mail) r.state r.outcome (on_get t h l key)) (sym (other m k key owner O ne h C))
          ((R.is m.lows m.owners m.keys m.slots m.lens m.values).is h l C H
          (record { picked = P; owner_is = λ D. O.is D.f D.map_kept }));
    };
  }

  replies : {counts places mail : List ℕ} {owner : ℕ} → x < numbers → key < numbers
      → Owner m.lows m.owners k.bounds key owner → owner ≡ k.me → (sent : Bool)
      → AfterValue m.keys m.slots m.lens m.values k.entries m.name_lens m.names k.width m.counts m.places m.mail k.size k.from p x key
      sent
      counts
      places
      mail
      → AfterRespond m k key p x (sent_or k sent (Replied p)) (mailed m counts places mail)
  replies {counts} {places} {mail} {owner} small key-small O e true G = record {
    is = record {
      freed = refl;
      is = λ h l C H P.
          let A = (G.is C.T C.table_kept).sent refl k.peers C.N C.P (was-given m k p x h l C H P (λ n. Unit) tt) in
          let D = answered m k h C k.from H.from_in l.from H.from_is x (P.number_is C) small (reply key (C.T key)) p counts places mail A.0 A.1
          (Replied p) (some (record { from = l.from; number = l.number; act = got key (look key h.records) })) refl in
          subst (λ (t : Bool). Does (mailed m counts places mail) (emptied k) (Replied p) (on_get t h l key)) (sym (mine m k key owner O e h C))
          (subst (λ (v : Option (List ℕ)). Does (mailed m counts places mail) (emptied k) (Replied p)
          (answering (numbered h l.from) (free h) l.from (reply key v) replied (some (record { from = l.from; number = l.number; act = got key (look key h.records) }))))
          (C.says.record_is key) D);
    };
  }
  replies {counts} {places} {mail} {owner} small key-small O e false G = record {
    is = record {
      freed = refl;
      is = λ h l C H P.
          let s = name_short m k h C k.from H.from_in in
          let v = short_value m k key h C in
          absurd (((G.is C.T C.table_kept).unsent refl).3 k.peers C.N C.P (was-given m k p x h l C H P (λ n. Unit) tt)
          (reply_good k.width k.size C.sized x small (C.N k.from) s key (C.T key) key-small v)
          (reply_fits k.width k.size C.sized x small (C.N k.from) s key (C.T key) v));
    };
  }

  pub replies_as : {counts places mail : List ℕ} {owner : ℕ} {sent : Bool} {r : Done} → x < numbers → key < numbers
      → Owner m.lows m.owners k.bounds key owner → owner ≡ k.me
      → AfterValue m.keys m.slots m.lens m.values k.entries m.name_lens m.names k.width m.counts m.places m.mail k.size k.from p x key
      sent
      counts
      places
      mail
      → r ≡ sent_or k sent (Replied p) → AfterRespond m k key p x r (mailed m counts places mail)
  replies_as {counts} {places} {mail} {owner} {sent} {r} small key-small O e G q =
      subst (λ (d : Done). AfterRespond m k key p x d (mailed m counts places mail)) (sym q) (replies small key-small O e sent G)

-- ---- the Get

module _ {m : Memory} {k : State} {key : ℕ} where
  pub picks : {m' : Memory} {p x : ℕ} {r : Done} → AfterPick m.counts m.places k.from (Ok (p, x)) → AfterRespond m k key p x r m' → AfterGet m k key r m'
  picks A R = record {
    is = record {
      freed = R.is.freed;
      is = λ h l C H q.
          R.is.is h l C H (record { place_open = A.is.0; number_is = λ D. A.is.1 m.mail k.size k.peers D.P D.post_kept H.from_in });
    };
  }

  runs_out : {r : Done} → AfterPick m.counts m.places k.from (Err NoNumber) → r ≡ sent_or k false Dropped → AfterGet m k key r m
  runs_out {r} A e = subst (λ (d : Done). AfterGet m k key d m) (sym e) (record {
    is = record {
      freed = refl;
      is = λ h l C H q. either h l C H (same (owner_of h.owners key) h.me);
    };
  })
    where
      either : (h : Host) (l : Letter) (C : Core m k h) → Heard m k l → (t : Bool) → Does m (emptied k) Unnumbered (on_get t h l key)
      either h l C H true =
          unanswered m k h C k.from H.from_in l.from H.from_is (A.is m.mail k.size k.peers C.P C.post_kept H.from_in) _ _ _
      either h l C H false =
          unanswered m k h C k.from H.from_in l.from H.from_is (A.is m.mail k.size k.peers C.P C.post_kept H.from_in) _ _ _

  no_place : {r : Done} → AfterPick m.counts m.places k.from (Err NoPlace) → r ≡ sent_or k false Dropped → AfterGet m k key r m
  no_place {r} A e = subst (λ (d : Done). AfterGet m k key d m) (sym e) (record {
    is = record { freed = refl; is = λ h l C H q. absurd (all_taken m k h C A.is.0 q) };
  })

  -- what is not picked is not answered
  pub unpicked : (e : Refused) {r : Done} → AfterPick m.counts m.places k.from (Err e) → r ≡ sent_or k false Dropped → AfterGet m k key r m
  unpicked NoNumber A q = runs_out A q
  unpicked NoPlace A q = no_place A q
