-- The room test of a Delegate, one law for each answer.
-- Assumes nothing.
use mathlib.Core.Path.{◌≡◌, sym, ap, ◌∙◌, subst}
use mathlib.Core.Bool.{Bool, true, false, ◌||◌, not, true≢false, false≢true}
use mathlib.Core.List.{List}
use Prim.Native.Nat.{ℕ, ◌<◌}
use native.Mathlib.Omega.{arith}
use lib.ListN.{length}
use lib.Dec.{leb}
use borrow.Author.Tests.{leb-true, leb-false}
use Rattle.limits.specs.Limits.{entries_limit}
use Rattle.keys.specs.declared.Bound.{Bound}
use Rattle.keys.specs.Bound.{below}
use Rattle.format.specs.Format.{Entry}
use Rattle.message.specs.Message.{Address}
use Rattle.message.specs.declared.ListView.{ListView}
use Rattle.message.specs.declared.BodyView.TheVariants.{Delegate}
use Rattle.message.specs.View.{BodyIn}
use Rattle.counts.specs.Answers.{Left}
use Rattle.delegation.specs.Map.{room}
use Rattle.std.specs.Prelude.{Some, None}
use Rattle.peers.specs.Names.{AfterFind}
use Rattle.protocol.specs.Address.{among}
use Rattle.protocol.specs.Records.{replacing}
use Rattle.protocol.specs.Owners.{giving}
use Rattle.protocol.specs.State.{Host, Letter}
use Rattle.protocol.specs.Process.{any_long, unfit}
use Rattle.hosts.specs.declared.State.{State}
use Rattle.hosts.specs.Memory.{Memory, memory}
use Rattle.hosts.specs.Limits.{Bounded}
use Rattle.hosts.specs.Keeps.{Core}
use Rattle.hosts.specs.Answers.{Heard}
use Rattle.protocol.proofs.Addresses.{or_right}
use Rattle.hosts.proofs.Names.{strange_among}
use Rattle.hosts.proofs.Core.{name_is}
use Rattle.hosts.proofs.Maps.{left_bounded, bounded_left}
use Rattle.hosts.proofs.Tables.{size_replaced}
use Rattle.delegates.specs.Answers.{Fine, AfterColumns}
use Rattle.accepting.proofs.Laws.{filled_listed}
use Rattle.accepting.proofs.Together.{es, few_entries, unfit_as}
use Rattle.shards.specs.Answers.{Fits}
use Rattle.rooms.specs.Inner.{heard, DelegateTested}
use Rattle.shards.proofs.Laws.{keeps_fewer}

module _ (m : Memory) (k : State) (h : Host) (C : Core m k h) where
  -- whom the host hears from is not in what memory keeps
  core_heard : (i : ℕ) → Core m (heard k i) h
  core_heard i = record {
    N = C.N;
    f = C.f;
    T = C.T;
    P = C.P;
    sized = C.sized;
    names_kept = C.names_kept;
    map_kept = C.map_kept;
    table_kept = C.table_kept;
    post_kept = C.post_kept;
    says = C.says;
    transfers_is = C.transfers_is;
    turns_is = C.turns_is;
  }

  -- what no host has sent is dropped
  unfit_stranger : (l : Letter) (lo hi : Bound) (es : List Entry) → ((i : ℕ) → i < k.hosts → C.N i ≡ l.from → ⊥) → unfit h l lo hi es ≡ true
  unfit_stranger l lo hi es n =
      let e : among l.from h.hosts ≡ false =
      subst (λ (x : List Address). among l.from x ≡ false) C.says.hosts_are (strange_among C.N k.hosts l.from n) in
      or_right (not (below lo hi)) _ (or_right (leb entries_limit (length es)) _ (or_right (any_long es) _ (ap not e)))

module _ {lows owners keys slots name_lens names : List ℕ} {k : State} {a : Address} {s : List ℕ} {lo hi : Bound} {list : ListView} where
  -- one that is dropped needs nothing
  needless : ((lens values counts places mail : List ℕ) (h : Host) (l : Letter)
      → Core (memory lows owners keys slots lens values name_lens names counts places mail) k h → l.from ≡ a → BodyIn s (Delegate lo hi list)
      → unfit h l lo hi (es s list) ≡ true)
      → DelegateTested lows owners keys slots name_lens names k a s lo hi list true
  needless U = record {
    is = λ places. record {
      roomy = λ e lens values counts mail room h l C f b z. absurd (true≢false (sym (U lens values counts places mail h l C f b) ∙ z));
      lacks = λ e. absurd (true≢false e);
    };
  }

  pub delegate_stranger : AfterFind name_lens names k.width k.hosts a None → DelegateTested lows owners keys slots name_lens names k a s lo hi list true
  delegate_stranger A =
      needless
      (λ lens values counts places mail h l C f b.
      unfit_stranger (memory lows owners keys slots lens values name_lens names counts places mail) k h C l lo hi (es s list)
      (λ i p z. A.is C.N (keeps_fewer C.names_kept C.says.few) i p (z ∙ f)))

  module _ {i : ℕ} (A : AfterFind name_lens names k.width k.hosts a (Some i)) where
    module _ {t : Bool} (F : Fine (heard k i) lo hi list.count t) where
      -- whether it is dropped, by the two tests
      unfit_is : (x : Bool) → t ≡ x → (lens values counts places mail : List ℕ) (h : Host) (l : Letter)
          → Core (memory lows owners keys slots lens values name_lens names counts places mail) k h → l.from ≡ a → BodyIn s (Delegate lo hi list)
          → unfit h l lo hi (es s list) ≡ not x || any_long (es s list)
      unfit_is x y lens values counts places mail h l C f b =
          let m = memory lows owners keys slots lens values name_lens names counts places mail in
          let w = A.is C.N (keeps_fewer C.names_kept C.says.few) in
          let p : i < k.peers = omega (arith, w.0, C.says.few) in
          let H : Heard m (heard k i) l = record { from_in = p; from_is = name_is m k h C i p ∙ w.1 ∙ sym f } in
          unfit_as F m h (core_heard m k h C i) l H b x y

      pub delegate_unfit : t ≡ false → DelegateTested lows owners keys slots name_lens names k a s lo hi list true
      delegate_unfit y = needless (unfit_is false y)

      module _ (y : t ≡ true) {u : Bool} {ks ats ls : List ℕ} (B : AfterColumns s list.at list.count u ks ats ls) where
        pub delegate_long : length ks ≡ entries_limit → length ats ≡ entries_limit → length ls ≡ entries_limit → u ≡ false → DelegateTested lows owners keys slots name_lens names k a s lo hi list true
        delegate_long ek ea el v =
            let n = few_entries F y in
            needless
            (λ lens values counts places mail h l C f b.
            unfit_is true y lens values counts places mail h l C f b
            ∙ B.no v (omega (arith, n, ek)) (omega (arith, n, ea)) (omega (arith, n, el)) b.0 b.1)

        module _ (v : u ≡ true) where
          fit : (lens values counts places mail : List ℕ) (h : Host) (l : Letter)
              → Core (memory lows owners keys slots lens values name_lens names counts places mail) k h → l.from ≡ a → BodyIn s (Delegate lo hi list)
              → unfit h l lo hi (es s list) ≡ false
          fit lens values counts places mail h l C f b = unfit_is true y lens values counts places mail h l C f b ∙ (B.yes v b.0 b.1).0

          -- one that is taken needs room in the map
          pub delegate_bounds : {w : Bool} → Fits lows owners k.bounds lo hi k.me w → w ≡ false → DelegateTested lows owners keys slots name_lens names k a s lo hi list false
          delegate_bounds F z = record {
            is = λ places. record {
              roomy = λ o. absurd (false≢true o);
              lacks = λ o lens values counts mail space h l C f b N.
                  let m = memory lows owners keys slots lens values name_lens names counts places mail in
                  let r =
                  bounded_left m k h C lo hi k.me C.says.own F.after (room lows owners) F.left
                  (subst (λ (x : Address). Bounded (room lows owners) h (giving lo hi x h.owners)) (sym C.says.me_is)
                  (N (fit lens values counts places mail h l C f b)).0) in
                  omega (arith, r, F.no z);
            };
          }

          -- .. and in the table
          pub delegate_entries : {w : Bool} → Fits lows owners k.bounds lo hi k.me w → w ≡ true → {n : ℕ}
              → Left keys k.entries lo hi ks list.count n → DelegateTested lows owners keys slots name_lens names k a s lo hi list (leb n (length slots))
          delegate_entries F z {n} L = record {
            is = λ places. record {
              roomy = λ o lens values counts mail space h l C f b x. (
                subst (λ (x : Address). Bounded (room lows owners) h (giving lo hi x h.owners)) C.says.me_is
                    (left_bounded (memory lows owners keys slots lens values name_lens names counts places mail) k h C lo hi k.me C.says.own F.after (room lows owners) F.left (F.yes z)),
                omega (arith, leb-true n (length slots) o, size lens values counts places mail h C b),
              );
              lacks = λ o lens values counts mail space h l C f b N.
                  omega (arith, leb-false n (length slots) o, size lens values counts places mail h C b, (N (fit lens values counts places mail h l C f b)).1);
            };
          }
            where
              size : (lens values counts places mail : List ℕ) (h : Host)
                  → Core (memory lows owners keys slots lens values name_lens names counts places mail) k h → BodyIn s (Delegate lo hi list)
                  → n ≡ length (replacing lo hi (es s list) h.records)
              size lens values counts places mail h C b =
                  let R = b.1 in
                  let fill = (B.yes v b.0 R).1 in
                  let lists = filled_listed s (es s list) ks ats ls list.count fill R.count R.above in
                  size_replaced C.T h.records C.says.record_is C.says.sorted lo hi (es s list) R.above list.count _ _ lists n
                  (L.is slots lens values C.T C.table_kept (omega (arith, fill.fits_keys, R.count)) lists.rising _)
