-- Processing here is a step that upstream's relations allow: the one for processing, or the one by which a nonsensical Delegate is dropped.
-- Assumes nothing.
use mathlib.Core.Path.{◌≡◌, refl, sym, ap, ◌∙◌, subst}
use mathlib.Core.Bool.{Bool, true, false, cond, ◌||◌, not, false≢true}
use mathlib.Core.List.{List, [], ◌∷◌, ◌++◌}
use mathlib.Core.Logic.{◌⊎◌, inl, inr, ⊎_elim}
use mathlib.Core.Option.{Option, none, some, some-injective}
use Prim.Native.Nat.{ℕ, suc, ◌-◌, ◌<◌}
use native.Mathlib.Omega.{arith}
use lib.ListN.{length}
use lib.Dec.{ltb, leb}
use borrow.Author.Tests.{not-true, not-false, eq-eqb, ne_eqb, ltb-true, ltb-false, leb-true, leb-false}
use Rattle.limits.specs.Limits.{value_max, entries_limit, transfers_limit}
use Rattle.keys.specs.declared.Bound.{Bound}
use Rattle.keys.specs.Bound.{below, holds}
use Rattle.format.specs.Number.{numbers}
use Rattle.format.specs.Format.{Entry, Above}
use Rattle.message.specs.Message.{Address, Body}
use Rattle.message.specs.Message.{get as getBody, set as setBody, reply as replyBody, redirect as redirectBody, shard as shardBody, delegate as delegateBody, message as messageOf}
use Rattle.message.specs.Table.{Valid}
use Rattle.decoding.specs.Decode.{same}
use Rattle.decoding.proofs.Decided.{same_true, same_refl}
use Rattle.protocol.specs.Address.{among}
use Rattle.protocol.specs.Records.{Value, look, setting, in_range, outside}
use Rattle.protocol.specs.Owners.{Owners, owner_of, giving, whole}
use Rattle.protocol.specs.State.{Host, Letter, done, short}
use Rattle.protocol.specs.Delivery.{Step, Outcome, got, still, next, posted, numbered, stuck, dropped, unnumbered, replied, redirected}
use Rattle.protocol.specs.Process.{free, discarded, answering, on_get, long, keeping, on_set, any_long, unfit, on_delegate, refused, handing, on_shard, on_body, on_letter, process}
use Rattle.protocol.proofs.Addresses.{either, neither, short_among}
use Rattle.protocol.proofs.Entries.{above_kept, look_in_range, look_outside, look_replacing, look_setting, or_else}
use Rattle.protocol.proofs.Whole.{whole_all, all_whole}
use Rattle.upstream.specs.Messages.{Len, max_val_len, ValidOptional, reply, redirect, delegate, message, Packet}
use Rattle.upstream.specs.Delivery.{SendSingle}
use Rattle.upstream.specs.Hosts.{AppRequest, app_get, app_set, sent, preferred, extract, update, AllOf, Answers, MustReject, ShouldProcess, ProcessMessage, ProcessRoom, IgnoresDelegate, Next, process_packet, ignore_nonsense}
use Rattle.upstream.specs.View.{view_body, CarriesAll, sending, view_delivery, view_room, view, recorded}
use Rattle.upstream.proofs.Lists.{among_on, on_among, all_sends, one_sent, sound}
use Rattle.upstream.proofs.Views.{seqno_is, acks_posted}
use Rattle.upstream.proofs.Receives.{complete}
use Rattle.upstream.proofs.Tables.{len_unique, a_long_one}

-- What is true of every host of a run (crate world): its keys rise, the hosts' addresses are short, and the message in its room may be written
pub record Sane (h : Host) : Type 0 where
  pub sorted : Above 0 h.records
  pub hosts_short : short h.hosts ≡ true
  pub room_valid : (l : Letter) → h.room ≡ some l → Valid (messageOf l.number h.me l.body)

-- upstream allows the step s of h
pub record Processed (past : List AppRequest) (h : Host) (s : Step) : Type 0 where
  pub packets : List Packet
  pub carried : CarriesAll h.me s.sends packets
  pub next : Next (view past h) (view (recorded past s.executed) s.state) (sending packets)

preferred_as : (v w : Option Value) → or_else v w ≡ preferred v w
preferred_as none w = refl
preferred_as (some v) w = refl

module _ (past : List AppRequest) (h : Host) (S : Sane h) where
  -- ---- sending

  -- a message that has a number is sent, by a host that has done with its room
  send_posted : (o : Owners) (es : List Entry) (t : ℕ) (c : Address) (b : Body) → numbered h c ≡ true
      → SendSingle (view_delivery h) (view_delivery (posted c b (done o es t h))) (view_body b) c (some (message (next h c) c (view_body b)))
  send_posted o es t c b e = record {
    too_many = λ w. let u = seqno_is h c in absurd (omega (arith, u, w, ltb-true (next h c) numbers e));
    sent = λ w. (
      ap (λ (n : ℕ). some (message n c (view_body b))) (sym (seqno_is h c)),
      ap (λ f. record { received = (view_delivery h).received; sends = f }) (acks_posted (done o es t h) c b),
    );
  }

  abbrev pkt_to : Address → Body → Packet
  pkt_to c b = record { dst = c; src = h.me; msg = message (next h c) c (view_body b) }

  module _ (l : Letter) where
    -- upstream allows the step s for the body b, by one of its two relations
    record Row (b : Body) (s : Step) : Type 0 where
      packets : List Packet
      carried : CarriesAll h.me s.sends packets
      constants : (view past h).constants ≡ (view (recorded past s.executed) s.state).constants
      is : ProcessMessage (message l.number h.me (view_body b)) (view past h) (view (recorded past s.executed) s.state) l.from (sent (sending packets))
          ⊎ (IgnoresDelegate (message l.number h.me (view_body b)) (view past h) (view (recorded past s.executed) s.state) × (packets ≡ []))

    -- the room is freed, and that is all
    dropped_get : (k : ℕ) (o : Outcome) → Row (getBody k) (discarded h o)
    dropped_get k o = record {
      packets = [];
      carried = tt;
      constants = refl;
      is = inl ((λ w. ((refl, refl, refl, inr (refl, λ p q. q)), refl)), λ w. absurd (w tt));
    }

    dropped_set : (k : ℕ) (v : Option Value) (o : Outcome) → Row (setBody k v) (discarded h o)
    dropped_set k v o = record {
      packets = [];
      carried = tt;
      constants = refl;
      is = inl ((λ w. ((inr (refl, λ p q. q), refl, refl), refl)), λ w. absurd (w tt));
    }

    -- ---- Get and Set

    owner_me : (k : ℕ) → same (owner_of h.owners k) h.me ≡ true → owner_of h.owners k ≡ h.me
    owner_me k e = same_true (owner_of h.owners k) h.me e

    not_me : (k : ℕ) → same (owner_of h.owners k) h.me ≡ false → owner_of h.owners k ≡ h.me → ⊥
    not_me k e q = false≢true (sym e ∙ ap (λ (z : Address). same z h.me) q ∙ same_refl h.me)

    -- the answer's delivery and packet
    answered : (o : Owners) (es : List Entry) (t : ℕ) (b : Body) (past' : List AppRequest) → numbered h l.from ≡ true
        → Answers (view past h) (view past' (posted l.from b (done o es t h))) l.from (view_body b) (message (next h l.from) l.from (view_body b))
        (next h l.from) (view_body b) (sent (sending (pkt_to l.from b ∷ [])))
    answered o es t b past' e = record { delivery = send_posted o es t l.from b e; to = refl; only = one_sent (pkt_to l.from b) }

    row_get : (k : ℕ) (own : Bool) → same (owner_of h.owners k) h.me ≡ own → Row (getBody k) (on_get own h l k)
    row_get k true m = go (numbered h l.from) refl
      where
        go : (can : Bool) → numbered h l.from ≡ can
            → Row (getBody k) (answering can (free h) l.from (replyBody k (look k h.records)) replied (some (record { from = l.from; number = l.number; act = got k (look k h.records) })))
        go true e = record {
          packets = pkt_to l.from (replyBody k (look k h.records)) ∷ [];
          carried = ((refl, refl, (messageOf (next h l.from) l.from (replyBody k (look k h.records)), refl, refl)), tt);
          constants = refl;
          is = inl (
            (λ w. (
              (
                refl,
                refl,
                refl,
                inl (record {
                  sm = message (next h l.from) l.from (reply k (look k h.records));
                  m = reply k (look k h.records);
                  n = next h l.from;
                  b = reply k (look k h.records);
                  mine = λ q. (refl, refl);
                  other = λ a q n. absurd (n (sym (some-injective (owner_of h.owners k) a q) ∙ owner_me k m));
                  answers = answered h.owners h.records h.transfers (replyBody k (look k h.records)) (past ++ (app_get l.number k ∷ [])) e;
                }),
              ),
              refl,
            )),
            λ w. absurd (w tt),
          );
        }
        go false e = dropped_get k unnumbered
    row_get k false m = go (numbered h l.from) refl
      where
        go : (can : Bool) → numbered h l.from ≡ can
            → Row (getBody k) (answering can (free h) l.from (redirectBody k (owner_of h.owners k)) redirected none)
        go true e = record {
          packets = pkt_to l.from (redirectBody k (owner_of h.owners k)) ∷ [];
          carried = ((refl, refl, (messageOf (next h l.from) l.from (redirectBody k (owner_of h.owners k)), refl, refl)), tt);
          constants = refl;
          is = inl (
            (λ w. (
              (
                refl,
                refl,
                refl,
                inl (record {
                  sm = message (next h l.from) l.from (redirect k (owner_of h.owners k));
                  m = redirect k (owner_of h.owners k);
                  n = next h l.from;
                  b = redirect k (owner_of h.owners k);
                  mine = λ q. absurd (not_me k m (some-injective (owner_of h.owners k) h.me q));
                  other = λ a q n. (ap (redirect k) (some-injective (owner_of h.owners k) a q), refl);
                  answers = answered h.owners h.records h.transfers (redirectBody k (owner_of h.owners k)) past e;
                }),
              ),
              refl,
            )),
            λ w. absurd (w tt),
          );
        }
        go false e = dropped_get k unnumbered

    short_enough : (v : Option Value) → long v ≡ false → ValidOptional v
    short_enough none e = tt
    short_enough (some v) e = let u = ltb-false value_max (length v) e in omega (arith, u)

    row_keeping : (k : ℕ) (v : Option Value) → long v ≡ false → same (owner_of h.owners k) h.me ≡ true → (can fits : Bool) → numbered h l.from ≡ can
        → Row (setBody k v) (keeping can fits h l k v)
    row_keeping k v e m true true n = record {
      packets = pkt_to l.from (replyBody k v) ∷ [];
      carried = ((refl, refl, (messageOf (next h l.from) l.from (replyBody k v), refl, refl)), tt);
      constants = refl;
      is = inl (
        (λ w. (
          (
            inl (record {
              valid = short_enough v e;
              sm = message (next h l.from) l.from (reply k v);
              m = reply k v;
              n = next h l.from;
              b = reply k v;
              mine = λ q. (
                look_setting k v h.records S.sorted k ∙ ap (λ (t : Bool). cond t v (look k h.records)) (eq-eqb k k refl),
                (λ j z. look_setting k v h.records S.sorted j ∙ ap (λ (t : Bool). cond t v (look j h.records)) (ne_eqb j k z)),
                refl,
                refl,
              );
              other = λ a q z. absurd (z (sym (some-injective (owner_of h.owners k) a q) ∙ owner_me k m));
              answers = answered h.owners (setting k v h.records) h.transfers (replyBody k v) (past ++ (app_set l.number k v ∷ [])) n;
            }),
            refl,
            refl,
          ),
          refl,
        )),
        λ w. absurd (w tt),
      );
    }
    row_keeping k v e m true false n = dropped_set k v dropped
    row_keeping k v e m false fits n = dropped_set k v unnumbered

    row_set : (k : ℕ) (v : Option Value) (tooLong own fits : Bool) → long v ≡ tooLong → same (owner_of h.owners k) h.me ≡ own
        → Row (setBody k v) (on_set tooLong own fits h l k v)
    row_set k v true own fits e m = dropped_set k v dropped
    row_set k v false true fits e m = row_keeping k v e m (numbered h l.from) fits refl
    row_set k v false false fits e m = go (numbered h l.from) refl
      where
        go : (can : Bool) → numbered h l.from ≡ can
            → Row (setBody k v) (answering can (free h) l.from (redirectBody k (owner_of h.owners k)) redirected none)
        go true n = record {
          packets = pkt_to l.from (redirectBody k (owner_of h.owners k)) ∷ [];
          carried = ((refl, refl, (messageOf (next h l.from) l.from (redirectBody k (owner_of h.owners k)), refl, refl)), tt);
          constants = refl;
          is = inl (
            (λ w. (
              (
                inl (record {
                  valid = short_enough v e;
                  sm = message (next h l.from) l.from (redirect k (owner_of h.owners k));
                  m = redirect k (owner_of h.owners k);
                  n = next h l.from;
                  b = redirect k (owner_of h.owners k);
                  mine = λ q. absurd (not_me k m (some-injective (owner_of h.owners k) h.me q));
                  other = λ a q z. (refl, ap (redirect k) (some-injective (owner_of h.owners k) a q), refl);
                  answers = answered h.owners h.records h.transfers (redirectBody k (owner_of h.owners k)) past n;
                }),
                refl,
                refl,
              ),
              refl,
            )),
            λ w. absurd (w tt),
          );
        }
        go false n = dropped_set k v unnumbered

    -- ---- Delegate

    map_given : (lo hi : Bound) (a : Address) → (λ (k : ℕ). some (owner_of (giving lo hi a h.owners) k)) ≡ update (λ k. some (owner_of h.owners k)) (record { lo = lo; hi = hi }) a
    map_given lo hi a = λ i k. go k (holds lo hi k) i
      where
        go : (k : ℕ) (t : Bool) → ◌≡◌ {A = Option Address} (some (cond t a (owner_of h.owners k))) (cond t (some a) (some (owner_of h.owners k)))
        go k true = refl
        go k false = refl

    module _ (few : ltb h.transfers (transfers_limit - 2) ≡ true) where
      may : h.transfers < transfers_limit - 2
      may = ltb-true h.transfers (transfers_limit - 2) few

      row_accepted : (lo hi : Bound) (es : List Entry) → Above 0 es → among l.from h.hosts ≡ true
          → Row (delegateBody lo hi es) (on_delegate false h l lo hi es)
      row_accepted lo hi es sorted from = record {
        packets = [];
        carried = tt;
        constants = refl;
        is = inl (
          (λ w. (
            record {
              from_host = λ o. (
                map_given lo hi h.me,
                (λ i k. (look_replacing lo hi es h.records sorted S.sorted k ∙ preferred_as (look k es) (cond (holds lo hi k) none (look k h.records))) i),
                omega arith,
              );
              from_other = λ n. absurd (n (among_on l.from h.hosts from));
              nothing_sent = refl;
              nothing_received = refl;
              nothing_out = λ p q. q;
              no_request = refl;
            },
            refl,
          )),
          λ w. absurd (w may),
        );
      }

      -- one that no host has sent
      row_strange : (lo hi : Bound) (es : List Entry) → among l.from h.hosts ≡ false → Row (delegateBody lo hi es) (discarded h dropped)
      row_strange lo hi es from = record {
        packets = [];
        carried = tt;
        constants = refl;
        is = inl (
          (λ w. (
            record {
              from_host = λ o. absurd (false≢true (sym from ∙ on_among l.from h.hosts o));
              from_other = λ n. (refl, refl, refl);
              nothing_sent = refl;
              nothing_received = refl;
              nothing_out = λ p q. q;
              no_request = refl;
            },
            refl,
          )),
          λ w. absurd (w may),
        );
      }

      -- a nonsensical one
      row_nonsense : (lo hi : Bound) (es : List Entry)
          → ((((n : ℕ) × Len (λ k. look k es) n × (n < entries_limit)) × ((k : ℕ) (v : Value) → look k es ≡ some v → length v < max_val_len)) → (below lo hi ≡ false → ⊥) → ⊥)
          → Row (delegateBody lo hi es) (discarded h dropped)
      row_nonsense lo hi es n = record {
        packets = [];
        carried = tt;
        constants = refl;
        is = inr (((λ v. n v.0 v.1), (λ w. refl), λ w. absurd (w may)), refl);
      }

      row_delegate : (lo hi : Bound) (es : List Entry) → Above 0 es → (no : Bool) → unfit h l lo hi es ≡ no
          → Row (delegateBody lo hi es) (on_delegate no h l lo hi es)
      row_delegate lo hi es sorted false e =
          row_accepted lo hi es sorted (not-false _ (neither (any_long es) _ (neither (leb entries_limit (length es)) _ (neither (not (below lo hi)) _ e).1).1).1)
      row_delegate lo hi es sorted true e =
          ⊎_elim
          (λ q. row_nonsense lo hi es (λ v n. n (not-true (below lo hi) q)))
          (λ q.
          ⊎_elim
          (λ r.
          row_nonsense lo hi es
          (λ v n.
          let u : length es ≡ v.0.0 = len_unique (λ k. look k es) v.0.0 es sorted (λ k. refl) v.0.1 in
          let w = v.0.2 in
          omega (arith, u, w, leb-true entries_limit (length es) r)))
          (λ r.
          ⊎_elim
          (λ z.
          row_nonsense lo hi es
          (λ v n.
          let b = a_long_one 0 es sorted z in
          let w = v.1 b.0 b.1 b.2 in
          let x = b.3 in
          omega (arith, w, x)))
          (λ z. row_strange lo hi es (not-true (among l.from h.hosts) z))
          (either (any_long es) _ r))
          (either (leb entries_limit (length es)) _ q))
          (either (not (below lo hi)) _ e)

      -- ---- Shard

      -- how many entries the range has
      range_len : (lo hi : Bound) → Len (extract (λ k. look k h.records) (record { lo = lo; hi = hi })) (length (in_range lo hi h.records))
      range_len lo hi = (in_range lo hi h.records, above_kept (holds lo hi) 0 h.records S.sorted, (λ k. look_in_range lo hi k h.records), refl)

      -- a map that says "mine" throughout, in upstream's words and here
      all_of : (lo hi : Bound) → whole lo hi h.me h.owners ≡ true → AllOf (view past h).delegation (record { lo = lo; hi = hi }) h.me
      all_of lo hi e k c = ap (λ (a : Address). some a) (whole_all lo hi h.me h.owners e k c)

      of_all : (lo hi : Bound) → AllOf (view past h).delegation (record { lo = lo; hi = hi }) h.me → whole lo hi h.me h.owners ≡ true
      of_all lo hi A = all_whole lo hi h.me h.owners (λ k c. some-injective (owner_of h.owners k) h.me (A k c))

      must_reject : (lo hi : Bound) (a : Address) → refused h lo hi a ≡ true → MustReject (view past h) (record { lo = lo; hi = hi }) a
      must_reject lo hi a e =
          ⊎_elim (λ q. inl (same_true a h.me q))
          (λ q.
          ⊎_elim (λ r. inr (inr (inr (inl (λ o. false≢true (sym (not-true (among a h.hosts) r) ∙ on_among a h.hosts o))))))
          (λ r.
          ⊎_elim (λ s. inr (inr (inl (not-true (below lo hi) s))))
          (λ s.
          ⊎_elim (λ z. inr (inr (inr (inr (inl (λ A. false≢true (sym (not-true (whole lo hi h.me h.owners) z) ∙ of_all lo hi A)))))))
          (λ z. inr (inr (inr (inr (inr (length (in_range lo hi h.records), range_len lo hi, leb-true entries_limit (length (in_range lo hi h.records)) z))))))
          (either (not (whole lo hi h.me h.owners)) _ s))
          (either (not (below lo hi)) _ r))
          (either (not (among a h.hosts)) _ q))
          (either (same a h.me) _ e)

      module _ (lo hi : Bound) (a : Address) (e : refused h lo hi a ≡ false) where
        first : (same a h.me ≡ false) × ((not (among a h.hosts) || (not (below lo hi) || (not (whole lo hi h.me h.owners) || leb entries_limit (length (in_range lo hi h.records))))) ≡ false)
        first = neither _ _ e

        second : (not (among a h.hosts) ≡ false) × ((not (below lo hi) || (not (whole lo hi h.me h.owners) || leb entries_limit (length (in_range lo hi h.records)))) ≡ false)
        second = neither _ _ first.1

        third : (not (below lo hi) ≡ false) × ((not (whole lo hi h.me h.owners) || leb entries_limit (length (in_range lo hi h.records))) ≡ false)
        third = neither _ _ second.1

        fourth : (not (whole lo hi h.me h.owners) ≡ false) × (leb entries_limit (length (in_range lo hi h.records)) ≡ false)
        fourth = neither _ _ third.1

        is_host : among a h.hosts ≡ true
        is_host = not-false _ second.0

        other : a ≡ h.me → ⊥
        other q = false≢true (sym first.0 ∙ ap (λ (z : Address). same z h.me) q ∙ same_refl h.me)

        not_rejected : MustReject (view past h) (record { lo = lo; hi = hi }) a → ⊥
        not_rejected (inl q) = other q
        not_rejected (inr (inl q)) = q (short_among h.hosts S.hosts_short a is_host)
        not_rejected (inr (inr (inl q))) = false≢true (sym q ∙ not-false _ third.0)
        not_rejected (inr (inr (inr (inl q)))) = q (among_on a h.hosts is_host)
        not_rejected (inr (inr (inr (inr (inl q))))) = q (all_of lo hi (not-false _ fourth.0))
        not_rejected (inr (inr (inr (inr (inr q))))) =
            let u : length (in_range lo hi h.records) ≡ q.0 =
            len_unique (extract (λ k. look k h.records) (record { lo = lo; hi = hi })) q.0 (in_range lo hi h.records)
            (above_kept (holds lo hi) 0 h.records S.sorted) (λ k. look_in_range lo hi k h.records) q.1 in
            let w = q.2 in
            omega (arith, u, w, leb-false entries_limit (length (in_range lo hi h.records)) fourth.1)

        -- the entries of the range, as a table
        table_is : (λ (k : ℕ). look k (in_range lo hi h.records)) ≡ extract (λ k. look k h.records) (record { lo = lo; hi = hi })
        table_is = λ i k. look_in_range lo hi k h.records i

        row_handing : (can : Bool) → numbered h a ≡ can → Row (shardBody lo hi a) (handing can h lo hi a)
        row_handing true n = record {
          packets = pkt_to a (delegateBody lo hi (in_range lo hi h.records)) ∷ [];
          carried = ((refl, refl, (messageOf (next h a) a (delegateBody lo hi (in_range lo hi h.records)), refl, refl)), tt);
          constants = refl;
          is = inl (
            (λ w. (
              record {
                rejected = λ r. absurd (not_rejected r);
                handed = λ r. (
                  some (message (next h a) a (view_body (delegateBody lo hi (in_range lo hi h.records)))),
                  record {
                    other = other;
                    is_host = among_on a h.hosts is_host;
                    all_mine = all_of lo hi (not-false _ fourth.0);
                    delivery = subst (λ u. SendSingle (view_delivery h) (view_delivery (posted a (delegateBody lo hi (in_range lo hi h.records)) (done (giving lo hi a h.owners) (outside lo hi h.records) (suc h.transfers) h)))
                        (delegate (record { lo = lo; hi = hi }) u) a (some (message (next h a) a (view_body (delegateBody lo hi (in_range lo hi h.records)))))) table_is
                        (send_posted (giving lo hi a h.owners) (outside lo hi h.records) (suc h.transfers) a (delegateBody lo hi (in_range lo hi h.records)) n);
                    constants = refl;
                    counted = omega arith;
                    no_request = refl;
                    sent = (one_sent (pkt_to a (delegateBody lo hi (in_range lo hi h.records))), map_given lo hi a, λ i k. look_outside lo hi k h.records i);
                  },
                );
              },
              refl,
            )),
            λ w. absurd (w may),
          );
        }
        row_handing false n = record {
          packets = [];
          carried = tt;
          constants = refl;
          is = inl (
            (λ w. (
              record {
                rejected = λ r. absurd (not_rejected r);
                handed = λ r. (
                  none,
                  record {
                    other = other;
                    is_host = among_on a h.hosts is_host;
                    all_mine = all_of lo hi (not-false _ fourth.0);
                    delivery = record {
                      too_many = λ z. (refl, refl);
                      sent = λ z. let u = seqno_is h a in absurd (omega (arith, u, z, ltb-false (next h a) numbers n));
                    };
                    constants = refl;
                    counted = omega arith;
                    no_request = refl;
                    sent = ((λ p q. q), refl, refl);
                  },
                );
              },
              refl,
            )),
            λ w. absurd (w may),
          );
        }

      row_shard : (lo hi : Bound) (a : Address) (no : Bool) → refused h lo hi a ≡ no → Row (shardBody lo hi a) (on_shard no h lo hi a)
      row_shard lo hi a true e = record {
        packets = [];
        carried = tt;
        constants = refl;
        is = inl ((λ w. (record { rejected = λ r. (refl, λ p q. q); handed = λ r. absurd (r (must_reject lo hi a e)) }, refl)), λ w. absurd (w may));
      }
      row_shard lo hi a false e = row_handing lo hi a e (numbered h a) refl

    -- ---- every body

    -- at the limit of transfers the message stays
    stays : (b : Body) → (ShouldProcess (view past h) (view_body b) → ⊥) → Row b (still h stuck)
    stays b n = record { packets = []; carried = tt; constants = refl; is = inl ((λ w. absurd (n w)), λ w. (refl, λ p q. q)) }

    row : (few fits : Bool) → ltb h.transfers (transfers_limit - 2) ≡ few → (b : Body) → Valid (messageOf l.number h.me b) → Row b (on_body few fits h l b)
    row few fits e (getBody k) v = row_get k (same (owner_of h.owners k) h.me) refl
    row few fits e (setBody k u) v = row_set k u (long u) (same (owner_of h.owners k) h.me) fits refl refl
    row true fits e (delegateBody lo hi es) v = row_delegate e lo hi es v.1.1.1.1.1.2 (unfit h l lo hi es) refl
    row false fits e (delegateBody lo hi es) v = stays (delegateBody lo hi es) (λ w. omega (arith, w, ltb-false h.transfers (transfers_limit - 2) e))
    row true fits e (shardBody lo hi a) v = row_shard e lo hi a (refused h lo hi a) refl
    row false fits e (shardBody lo hi a) v = stays (shardBody lo hi a) (λ w. omega (arith, w, ltb-false h.transfers (transfers_limit - 2) e))
    row few fits e (replyBody k u) v = record { packets = []; carried = tt; constants = refl; is = inl ((λ w. ((refl, λ p q. q), refl)), λ w. absurd (w tt)) }
    row few fits e (redirectBody k a) v = record { packets = []; carried = tt; constants = refl; is = inl ((λ w. ((refl, λ p q. q), refl)), λ w. absurd (w tt)) }

    -- what is in the room is that letter
    implied_letter : h.room ≡ some l → (s : Step) → Row l.body s → Processed past h s
    implied_letter there s r = record {
      packets = r.packets;
      carried = r.carried;
      next = ⊎_elim processed nonsense r.is;
    }
      where
        processed : ProcessMessage (message l.number h.me (view_body l.body)) (view past h) (view (recorded past s.executed) s.state) l.from (sent (sending r.packets))
            → Next (view past h) (view (recorded past s.executed) s.state) (sending r.packets)
        processed P = record {
          complete = complete past h;
          constants = r.constants;
          step = process_packet;
          is = (complete past h, all_sends r.packets, subst (λ (o : Option Letter). ProcessRoom (view_room h.me o) (view past h) (view (recorded past s.executed) s.state) (sent (sending r.packets))) (sym there) P);
          sound = sound h.me s.sends r.packets r.carried;
        }

        nonsense : IgnoresDelegate (message l.number h.me (view_body l.body)) (view past h) (view (recorded past s.executed) s.state) × (r.packets ≡ [])
            → Next (view past h) (view (recorded past s.executed) s.state) (sending r.packets)
        nonsense P = record {
          complete = complete past h;
          constants = r.constants;
          step = ignore_nonsense;
          is = (ap sending P.1, (record { dst = h.me; src = l.from; msg = message l.number h.me (view_body l.body) }, ap (view_room h.me) there, P.0));
          sound = sound h.me s.sends r.packets r.carried;
        }

  implied_room : (fits : Bool) (o : Option Letter) → h.room ≡ o → Processed past h (on_letter fits h o)
  implied_room fits none e = record {
    packets = [];
    carried = tt;
    next = record {
      complete = complete past h;
      constants = refl;
      step = process_packet;
      is = (complete past h, tt, subst (λ (o : Option Letter). ProcessRoom (view_room h.me o) (view past h) (view past h) (sent [])) (sym e) (refl, λ p q. q));
      sound = λ q w z. w;
    };
  }
  implied_room fits (some l) e =
      implied_letter l e (on_body (ltb h.transfers (transfers_limit - 2)) fits h l l.body)
      (row l (ltb h.transfers (transfers_limit - 2)) fits refl l.body (S.room_valid l e))

  -- upstream's process_received_packet_next or ignore_nonsensical_delegation_packet holds of processing
  pub process_implied : (fits : Bool) → Processed past h (process fits h)
  process_implied fits = implied_room fits h.room refl
