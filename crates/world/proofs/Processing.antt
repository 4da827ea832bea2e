-- Processing is fine, row by row of document 01's table. What a host has sent is a transfer and is carried out; all else comes from strangers.
-- Assumes nothing.
use mathlib.Core.Path.{◌≡◌, refl, sym, ap, ap₂, ◌∙◌, subst}
use mathlib.Core.Bool.{Bool, true, false, cond, ◌||◌, not, false≢true}
use mathlib.Core.List.{List, [], ◌∷◌, ◌++◌, append-nil}
use mathlib.Core.Logic.{◌⊎◌, inl, inr}
use mathlib.Core.Option.{Option, none, some, some-injective, none-ne-some}
use Prim.Native.Nat.{ℕ, suc, ◌+◌, ◌-◌, ◌≤◌, ◌<◌}
use native.Mathlib.Omega.{arith}
use lib.ListN.{length}
use lib.Dec.{eqb, ltb, leb}
use borrow.Author.Tests.{not-false, ne_eqb, eqb-true, ltb-true, ltb-false}
use Rattle.limits.specs.Limits.{value_max, entries_limit, bytes_max, transfers_limit}
use Rattle.keys.specs.declared.Bound.{Bound}
use Rattle.keys.specs.Bound.{below, holds}
use Rattle.format.specs.Number.{numbers}
use Rattle.format.specs.Format.{Entry, Above, Good, maybe}
use Rattle.message.specs.Message.{Address, Body, get, set, reply, redirect, shard, delegate, message}
use Rattle.message.specs.Table.{address, value, Valid}
use Rattle.decoding.specs.Decode.{same}
use Rattle.decoding.proofs.Decided.{same_refl}
use Rattle.protocol.specs.Address.{among, at}
use Rattle.protocol.specs.Records.{Value, look, setting, in_range, outside, replacing}
use Rattle.protocol.specs.Owners.{owner_of, giving, whole}
use Rattle.protocol.specs.State.{Host, Letter, done, different, short}
use Rattle.protocol.specs.Delivery.{Packet, Outcome, Request, Act, got, stored, still, next, posted, packet, numbered, idle, stuck, replied, redirected, dropped, unnumbered, accepted, handed}
use Rattle.protocol.specs.Process.{free, answering, on_get, long, keeping, on_set, any_long, unfit, on_delegate, refused, handing, on_shard, on_body, on_letter, process}
use Rattle.protocol.proofs.Addresses.{or_right, neither, short_among}
use Rattle.protocol.proofs.Entries.{look_setting, above_setting}
use Rattle.protocol.proofs.Whole.{whole_all}
use Rattle.world.specs.World.{Executed, World}
use Rattle.world.specs.Events.{Trace, gives, takes, passes, trace_of, Moved, made, carried, moved_by, moved, asked, noted, nth, made_after, carried_after, executed_after}
use Rattle.world.specs.Claims.{mine}
use Rattle.world.specs.Single.{acted, table_of, Right, answer}
use Rattle.world.proofs.Lists.{All, nth_last}
use Rattle.world.proofs.Links.{Fair, link_count}
use Rattle.world.proofs.Invariant.{Moves, Told, Kept, Lettered, Local, Always}
use Rattle.world.proofs.Local.{told_more}
use Rattle.world.proofs.Changes.{at_cases, noted_there, noted_else}
use Rattle.world.proofs.Quiet.{core_dropped, core_told}
use Rattle.world.proofs.Answers.{core_answered, request}
use Rattle.world.proofs.Kept.{all_setting, look_short, fair_range, fair_kept, fair_good}
use Rattle.world.proofs.Given.{pair_cases}
use Rattle.world.proofs.Carried.{room_fair, core_carried}
use Rattle.world.proofs.Made.{core_made}
use Rattle.world.proofs.Net.{Grows, Goes, Fine, fine_same}

-- ---- tests

none_of : (s t : Bool) → s ≡ false → t ≡ false → s || t ≡ false
none_of s t e f = rw e f

-- ---- what may be written

good_address : (a : Address) → length a < bytes_max → Good address a
good_address a s = (s, omega (arith, s))

good_value : (v : Option Value) → ((w : Value) → v ≡ some w → length w ≤ value_max) → Good (maybe value) v
good_value none f = tt
good_value (some w) f = let u = f w refl in (omega (arith, u), omega (arith, u))

valid_reply : (n : ℕ) (c : Address) (k : ℕ) (v : Option Value) → n < numbers → length c < bytes_max → k < numbers
    → ((w : Value) → v ≡ some w → length w ≤ value_max) → Valid (message n c (reply k v))
valid_reply n c k v p q r f = (omega arith, (p, (good_address c q, (omega arith, (r, good_value v f)))))

valid_redirect : (n : ℕ) (c : Address) (k : ℕ) (a : Address) → n < numbers → length c < bytes_max → k < numbers → length a < bytes_max
    → Valid (message n c (redirect k a))
valid_redirect n c k a p q r s = (omega arith, (p, (good_address c q, (omega arith, (r, good_address a s)))))

short_value : (v : Option Value) → long v ≡ false → (w : Value) → v ≡ some w → length w ≤ value_max
short_value none e w q = absurd (none-ne-some w q)
short_value (some v) e w q =
    let u : length v ≡ length w = ap length (some-injective v w q) in omega (arith, u, ltb-false value_max (length v) e)

-- ---- one host processes

module _ {H : List Address} {W : World} (A : Always H W) (d : different H ≡ true) (s : short H ≡ true) (x : Address) (isHost : among x H ≡ true) where
  L : Local H W.executed x (W.state x)
  L = A.core.local x isHost

  -- what was received stays as it was
  grows_by : (g : Host) → ((c : Address) → (W.state x).received c ≡ g.received c) → (E : List Executed) (M : Moves)
      → ((y c : Address) (n : ℕ) (b : Body) → Told H W.executed y c n b → Told H E y c n b)
      → ((a b : Address) → (l : List Body) × (M a b ≡ W.made a b ++ l)) → Grows H W.state W.executed W.made (at x g W.state) E M
  grows_by g r E M told more = record {
    received = λ y c. at_cases x g W.state (λ f. (W.state y).received c ≤ f.received c) y
        (λ q.
        let u : (W.state y).received c ≡ (W.state x).received c = ap (λ (z : Address). (W.state z).received c) q in
        let v = r c in
        omega (arith, u, v))
        (λ q. omega arith);
    made = more;
    told = told;
  }

  nothing_made : (a b : Address) → (l : List Body) × (W.made a b ≡ W.made a b ++ l)
  nothing_made a b = ([], sym (append-nil (W.made a b)))

  -- an outcome that is no transfer's
  passing : (g : Host) (sends : List Packet) (o : Outcome) (r : Option Request) → trace_of o ≡ passes
      → Goes H W x (at x g W.state) (executed_after x (W.state x) r W.executed) W.made W.carried sends
      → Fine H W x (record { state = g; sends = sends; outcome = o; executed = r })
  passing g sends o r t G =
      subst
      (λ (k : Trace).
      Goes H W x (at x g W.state) (executed_after x (W.state x) r W.executed) (made_after x (moved_by k (W.state x) (W.state x).room) W.made)
      (carried_after x (moved_by k (W.state x) (W.state x).room) W.carried) sends)
      (sym t) G

  module _ (l : Letter) (there : (W.state x).room ≡ some l) where
    R : Lettered W.executed x (W.state x) l
    R = L.room_is l there

    -- ---- what comes from a stranger

    module _ (strange : among l.from H ≡ false) where
      fine_dropped : (t : ℕ) (o : Outcome) → trace_of o ≡ passes → Fine H W x (still (done (W.state x).owners (W.state x).records t (W.state x)) o)
      fine_dropped t o p =
          passing (done (W.state x).owners (W.state x).records t (W.state x)) [] o none p (record {
            core = core_dropped A.core x isHost l there strange t;
            grows = grows_by (done (W.state x).owners (W.state x).records t (W.state x)) (λ c. refl) W.executed W.made (λ y c n b T. T) nothing_made;
            spoken = tt;
          })

      no_link : (P : Type 0) → among l.from H ≡ true → P
      no_link P e = absurd (false≢true (sym strange ∙ e))

      -- the sender is told whose the key is
      fine_redirected : (k : ℕ) → k < numbers → (can : Bool) → numbered (W.state x) l.from ≡ can
          → Fine H W x (answering can (free (W.state x)) l.from (redirect k (owner_of (W.state x).owners k)) redirected none)
      fine_redirected k small true e =
          let n : next (W.state x) l.from < numbers = ltb-true (next (W.state x) l.from) numbers e in
          let v = valid_redirect (next (W.state x) l.from) l.from k (owner_of (W.state x).owners k) n R.short small
          (short_among H s (owner_of (W.state x).owners k) (L.owner_in k)) in record {
            core = core_told A.core x isHost l there strange (W.state x).transfers l.from strange (redirect k (owner_of (W.state x).owners k)) n v R.known (L.owner_in k);
            grows = grows_by (posted l.from (redirect k (owner_of (W.state x).owners k)) (free (W.state x))) (λ c. refl) W.executed W.made (λ y c n b T. T)
                nothing_made;
            spoken = (
              record {
                datagram = message (next (W.state x) l.from) l.from (redirect k (owner_of (W.state x).owners k));
                valid = v;
                bytes = refl;
                from = isHost;
                speaks = (refl, L.owner_in k, λ q. no_link _ q);
              },
              tt,
            );
          }
      fine_redirected k small false e = fine_dropped (W.state x).transfers unnumbered refl

      -- a request is carried out
      fine_answered : (act : Act) (k : ℕ) (v : Option Value) → answer act ≡ reply k v → (es : List Entry) → Above 0 es → All Kept es → k < numbers
          → ((w : Value) → v ≡ some w → length w ≤ value_max) → Right act (table_of W.executed)
          → ((j : ℕ) → mine (W.state x) x j ≡ true → look j es ≡ acted act (table_of W.executed) j)
          → ((j : ℕ) → (acted act (table_of W.executed) j ≡ table_of W.executed j) ⊎ (mine (W.state x) x j ≡ true))
          → ((j : ℕ) → mine (W.state x) x j ≡ false → look j es ≡ none)
          → numbered (W.state x) l.from ≡ true
          → Fine H W x (answering true (done (W.state x).owners es (W.state x).transfers (W.state x)) l.from (answer act) replied
          (some (record { from = l.from; number = l.number; act = act })))
      fine_answered act k v is es sorted kept small short right looks changes clean e =
          let n : next (W.state x) l.from < numbers = ltb-true (next (W.state x) l.from) numbers e in
          let good : Valid (message (next (W.state x) l.from) l.from (answer act)) =
          subst (λ (b : Body). Valid (message (next (W.state x) l.from) l.from b)) (sym is)
          (valid_reply (next (W.state x) l.from) l.from k v n R.short small short) in
          let Q = request A.core x isHost l there strange act es (W.state x).transfers in record {
            core = core_answered A.core x isHost l there strange act es (W.state x).transfers sorted kept n good right looks changes clean;
            grows = grows_by (posted l.from (answer act) (done (W.state x).owners es (W.state x).transfers (W.state x))) (λ c. refl) (Q ∷ W.executed) W.made
                (λ y c m b T. told_more H y W.executed Q c m b T) nothing_made;
            spoken = (
              record {
                datagram = message (next (W.state x) l.from) l.from (answer act);
                valid = good;
                bytes = refl;
                from = isHost;
                speaks = (
                  refl,
                  subst (λ (b : Body). Told H (Q ∷ W.executed) x l.from (next (W.state x) l.from) b) (sym is) (Q, (inl refl, refl, refl, refl, is)),
                  λ q. no_link _ q,
                );
              },
              tt,
            );
          }

      me_is : (W.state x).me ≡ x
      me_is = L.me_is

      -- the key is the host's own
      own_key : (k : ℕ) → same (owner_of (W.state x).owners k) (W.state x).me ≡ true → mine (W.state x) x k ≡ true
      own_key k e = subst (λ (z : Address). same (owner_of (W.state x).owners k) z ≡ true) me_is e

      fine_get : (k : ℕ) → k < numbers → (own : Bool) → same (owner_of (W.state x).owners k) (W.state x).me ≡ own → Fine H W x (on_get own (W.state x) l k)
      fine_get k small true e = go (numbered (W.state x) l.from) refl
        where
          go : (can : Bool) → numbered (W.state x) l.from ≡ can
              → Fine H W x (answering can (free (W.state x)) l.from (reply k (look k (W.state x).records)) replied
              (some (record { from = l.from; number = l.number; act = got k (look k (W.state x).records) })))
          go true n =
              fine_answered (got k (look k (W.state x).records)) k (look k (W.state x).records) refl (W.state x).records L.sorted L.kept small
              (λ w q. look_short k (W.state x).records L.kept w q) (A.core.right k x isHost (own_key k e)) (λ j m. A.core.right j x isHost m) (λ j. inl refl)
              (λ j m. A.core.clean j x isHost m) n
          go false n = fine_dropped (W.state x).transfers unnumbered refl
      fine_get k small false e = fine_redirected k small (numbered (W.state x) l.from) refl

      fine_keeping : (k : ℕ) (v : Option Value) → k < numbers → long v ≡ false → mine (W.state x) x k ≡ true → (can fits : Bool)
          → numbered (W.state x) l.from ≡ can → Fine H W x (keeping can fits (W.state x) l k v)
      fine_keeping k v small e m true true n =
          fine_answered (stored k v) k v refl (setting k v (W.state x).records) (above_setting k v (W.state x).records L.sorted)
          (all_setting Kept k v (W.state x).records (λ w q. (small, short_value v e w q)) L.kept) small (short_value v e) tt
          (λ j q. look_setting k v (W.state x).records L.sorted j ∙ ap (λ (u : Option Value). cond (eqb j k) v u) (A.core.right j x isHost q))
          changes clean n
        where
          clean : (j : ℕ) → mine (W.state x) x j ≡ false → look j (setting k v (W.state x).records) ≡ none
          clean j q =
              let u : eqb j k ≡ false = ne_eqb j k (λ w. false≢true (sym q ∙ subst (λ (i : ℕ). mine (W.state x) x i ≡ true) (sym w) m)) in
              look_setting k v (W.state x).records L.sorted j ∙ rw u (A.core.clean j x isHost q)

          changes : (j : ℕ) → (cond (eqb j k) v (table_of W.executed j) ≡ table_of W.executed j) ⊎ (mine (W.state x) x j ≡ true)
          changes j = go (eqb j k) refl
            where
              go : (t : Bool) → eqb j k ≡ t → (cond t v (table_of W.executed j) ≡ table_of W.executed j) ⊎ (mine (W.state x) x j ≡ true)
              go true q = inr (subst (λ (i : ℕ). mine (W.state x) x i ≡ true) (sym (eqb-true j k q)) m)
              go false q = inl refl
      fine_keeping k v small e m true false n = fine_dropped (W.state x).transfers dropped refl
      fine_keeping k v small e m false fits n = fine_dropped (W.state x).transfers unnumbered refl

      fine_set : (k : ℕ) (v : Option Value) → k < numbers → (tooLong own fits : Bool) → long v ≡ tooLong
          → same (owner_of (W.state x).owners k) (W.state x).me ≡ own → Fine H W x (on_set tooLong own fits (W.state x) l k v)
      fine_set k v small true own fits e q = fine_dropped (W.state x).transfers dropped refl
      fine_set k v small false true fits e q = fine_keeping k v small e (own_key k q) (numbered (W.state x) l.from) fits refl
      fine_set k v small false false fits e q = fine_redirected k small (numbered (W.state x) l.from) refl

      -- a Delegate of a stranger's is dropped
      no_host : (lo hi : Bound) (es : List Entry) → unfit (W.state x) l lo hi es ≡ true
      no_host lo hi es =
          or_right (not (below lo hi)) _
          (or_right (leb entries_limit (length es)) _
          (or_right (any_long es) (not (among l.from (W.state x).hosts))
          (ap (λ (z : List Address). not (among l.from z)) L.hosts_are ∙ ap not strange)))

      fine_delegate : (lo hi : Bound) (es : List Entry) → Fine H W x (on_delegate (unfit (W.state x) l lo hi es) (W.state x) l lo hi es)
      fine_delegate lo hi es =
          subst (λ (t : Bool). Fine H W x (on_delegate t (W.state x) l lo hi es)) (sym (no_host lo hi es)) (fine_dropped (W.state x).transfers dropped refl)

      -- a range is handed over
      fine_handing : (lo hi : Bound) (a : Address) → l.body ≡ shard lo hi a → refused (W.state x) lo hi a ≡ false → (can : Bool)
          → numbered (W.state x) a ≡ can → Fine H W x (handing can (W.state x) lo hi a)
      fine_handing lo hi a is e true n =
          let b : Body = delegate lo hi (in_range lo hi (W.state x).records) in
          let g : Host = posted a b (done (giving lo hi a (W.state x).owners) (outside lo hi (W.state x).records) (suc (W.state x).transfers) (W.state x)) in
          let m : moved (W.state x) handed ≡ made a b = ap (moved_by gives (W.state x)) there ∙ ap (asked (W.state x)) is in
          subst (λ (z : Moved). Goes H W x (at x g W.state) W.executed (made_after x z W.made) (carried_after x z W.carried) (packet (next (W.state x) a) a b ∷ [])) (sym m)
          (record {
            core = core_made A.core d x isHost l there strange lo hi a recipient other (suc (W.state x).transfers) all_mine fair small good;
            grows = grows_by g (λ c. refl) W.executed (noted x a b W.made) (λ y c n b T. T) more;
            spoken = (
              record {
                datagram = message (next (W.state x) a) a b;
                valid = good;
                bytes = refl;
                from = isHost;
                speaks = (refl, tt, λ q. ((W.state x).acknowledged a + length ((W.state x).waiting a), omega arith, last));
              },
              tt,
            );
          })
        where
          first : (same a (W.state x).me ≡ false) × ((not (among a (W.state x).hosts) || (not (below lo hi) || (not (whole lo hi (W.state x).me (W.state x).owners) || leb entries_limit (length (in_range lo hi (W.state x).records))))) ≡ false)
          first = neither _ _ e

          second : (not (among a (W.state x).hosts) ≡ false) × ((not (below lo hi) || (not (whole lo hi (W.state x).me (W.state x).owners) || leb entries_limit (length (in_range lo hi (W.state x).records)))) ≡ false)
          second = neither _ _ first.1

          third : (not (below lo hi) ≡ false) × ((not (whole lo hi (W.state x).me (W.state x).owners) || leb entries_limit (length (in_range lo hi (W.state x).records))) ≡ false)
          third = neither _ _ second.1

          fourth : (not (whole lo hi (W.state x).me (W.state x).owners) ≡ false) × (leb entries_limit (length (in_range lo hi (W.state x).records)) ≡ false)
          fourth = neither _ _ third.1

          recipient : among a H ≡ true
          recipient = ap (among a) (sym L.hosts_are) ∙ not-false _ second.0

          other : a ≡ x → ⊥
          other q = false≢true (sym first.0 ∙ ap (same a) me_is ∙ ap (λ (z : Address). same z x) q ∙ same_refl x)

          all_mine : (k : ℕ) → holds lo hi k ≡ true → owner_of (W.state x).owners k ≡ x
          all_mine k q = whole_all lo hi (W.state x).me (W.state x).owners (not-false _ fourth.0) k q ∙ me_is

          bounds : Valid (message l.number x (shard lo hi a))
          bounds = subst (λ (z : Body). Valid (message l.number x z)) is R.valid

          fair : Fair (delegate lo hi (in_range lo hi (W.state x).records))
          fair = fair_range lo hi (W.state x).records L.sorted L.kept (not-false _ third.0) fourth.1 bounds.1.1.1.1.0.0 bounds.1.1.1.1.0.1

          small : next (W.state x) a < numbers
          small = ltb-true (next (W.state x) a) numbers n

          good : Valid (message (next (W.state x) a) a (delegate lo hi (in_range lo hi (W.state x).records)))
          good = (omega arith, (small, (good_address a (short_among H s a recipient), fair_good (delegate lo hi (in_range lo hi (W.state x).records)) fair)))

          more : (p q : Address) → (z : List Body) × (noted x a (delegate lo hi (in_range lo hi (W.state x).records)) W.made p q ≡ W.made p q ++ z)
          more p q =
              pair_cases p q x a (λ y c. (z : List Body) × (noted x a (delegate lo hi (in_range lo hi (W.state x).records)) W.made y c ≡ W.made y c ++ z))
              (delegate lo hi (in_range lo hi (W.state x).records) ∷ [], noted_there x a (delegate lo hi (in_range lo hi (W.state x).records)) W.made)
              (λ v. ([], noted_else x a (delegate lo hi (in_range lo hi (W.state x).records)) W.made p q v ∙ sym (append-nil (W.made p q))))

          last : nth ((W.state x).acknowledged a + length ((W.state x).waiting a)) (noted x a (delegate lo hi (in_range lo hi (W.state x).records)) W.made x a)
              ≡ some (delegate lo hi (in_range lo hi (W.state x).records))
          last =
              ap₂ nth (link_count (A.core.link x a isHost recipient)) (noted_there x a (delegate lo hi (in_range lo hi (W.state x).records)) W.made)
              ∙ nth_last (W.made x a) (delegate lo hi (in_range lo hi (W.state x).records))
      fine_handing lo hi a is e false n = fine_dropped (suc (W.state x).transfers) unnumbered refl

      fine_shard : (lo hi : Bound) (a : Address) → l.body ≡ shard lo hi a → (no : Bool) → refused (W.state x) lo hi a ≡ no
          → Fine H W x (on_shard no (W.state x) lo hi a)
      fine_shard lo hi a is true e = fine_dropped (W.state x).transfers dropped refl
      fine_shard lo hi a is false e = fine_handing lo hi a is e (numbered (W.state x) a) refl

      fine_stranger : (few fits : Bool) (b : Body) → l.body ≡ b → Valid (message l.number x b) → Fine H W x (on_body few fits (W.state x) l b)
      fine_stranger few fits (get k) e v = fine_get k v.1.1.1.1 (same (owner_of (W.state x).owners k) (W.state x).me) refl
      fine_stranger few fits (set k u) e v =
          fine_set k u v.1.1.1.1.0 (long u) (same (owner_of (W.state x).owners k) (W.state x).me) fits refl refl
      fine_stranger true fits (delegate lo hi es) e v = fine_delegate lo hi es
      fine_stranger false fits (delegate lo hi es) e v = fine_same A x [] stuck refl tt
      fine_stranger true fits (shard lo hi a) e v = fine_shard lo hi a e (refused (W.state x) lo hi a) refl
      fine_stranger false fits (shard lo hi a) e v = fine_same A x [] stuck refl tt
      fine_stranger few fits (reply k u) e v = fine_dropped (W.state x).transfers dropped refl
      fine_stranger few fits (redirect k a) e v = fine_dropped (W.state x).transfers dropped refl

    -- ---- what comes from a host

    module _ (sender : among l.from H ≡ true) where
      F : Fair l.body
      F = room_fair A.core d x isHost l there sender

      fit : unfit (W.state x) l F.lo F.hi F.entries ≡ false
      fit =
          none_of _ _ (ap not F.range)
          (none_of _ _ F.few (none_of _ _ F.short (ap (λ (z : List Address). not (among l.from z)) L.hosts_are ∙ ap not sender)))

      fine_accepted : Fine H W x (on_delegate false (W.state x) l F.lo F.hi F.entries)
      fine_accepted =
          let g : Host = done (giving F.lo F.hi (W.state x).me (W.state x).owners) (replacing F.lo F.hi F.entries (W.state x).records) (suc (W.state x).transfers) (W.state x) in
          let m : moved (W.state x) accepted ≡ carried l.from l.body = ap (moved_by takes (W.state x)) there in
          subst (λ (z : Moved). Goes H W x (at x g W.state) W.executed (made_after x z W.made) (carried_after x z W.carried) []) (sym m)
          (record {
            core = core_carried A.core d x isHost l there sender F.lo F.hi F.entries (suc (W.state x).transfers) F.is F.inside
                F.good.1.1.2 (fair_kept l.body F);
            grows = grows_by g (λ c. refl) W.executed W.made (λ y c n b T. T) nothing_made;
            spoken = tt;
          })

      fine_host : (few fits : Bool) → Fine H W x (on_body few fits (W.state x) l (delegate F.lo F.hi F.entries))
      fine_host true fits = subst (λ (t : Bool). Fine H W x (on_delegate t (W.state x) l F.lo F.hi F.entries)) (sym fit) fine_accepted
      fine_host false fits = fine_same A x [] stuck refl tt

    fine_body : (few fits : Bool) (known : Bool) → among l.from H ≡ known → Fine H W x (on_body few fits (W.state x) l l.body)
    fine_body few fits true e = subst (λ (b : Body). Fine H W x (on_body few fits (W.state x) l b)) (sym (F e).is) (fine_host e few fits)
    fine_body few fits false e = fine_stranger e few fits l.body refl R.valid

  fine_letter : (fits : Bool) (r : Option Letter) → (W.state x).room ≡ r → Fine H W x (on_letter fits (W.state x) r)
  fine_letter fits none e = fine_same A x [] idle refl tt
  fine_letter fits (some l) e = fine_body l e (ltb (W.state x).transfers (transfers_limit - 2)) fits (among l.from H) refl

  pub fine_process : (fits : Bool) → Fine H W x (process fits (W.state x))
  fine_process fits = fine_letter fits (W.state x).room refl
