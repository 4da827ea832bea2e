-- A key of the host's own that was set is the definition's step.
-- Assumes nothing.
use mathlib.Core.Path.{◌≡◌, refl, sym, ap, ◌∙◌, subst}
use mathlib.Core.Bool.{Bool, true, false, cond}
use mathlib.Core.List.{List}
use mathlib.Core.Option.{Option, none, some}
use Prim.Native.Nat.{ℕ, suc, ◌<◌}
use native.Mathlib.Omega.{arith}
use lib.ListN.{length}
use lib.Dec.{ltb}
use borrow.Author.Tests.{lt-ltb, le-ltb, ltb-false}
use Rattle.limits.specs.Limits.{value_max, numbers}
use Rattle.message.specs.Message.{reply}
use Rattle.records.specs.Table.{Table, put}
use Rattle.records.specs.Memory.{Keeps}
use Rattle.records.proofs.Laws.{keeps_size, keeps_room, size_new, size_unique}
use Rattle.std.specs.Prelude.{Ok, Err}
use Rattle.stores.specs.declared.Refused.{Refused}
use Rattle.stores.specs.declared.Refused.TheVariants.{Full, TooLong}
use Rattle.stores.specs.Answers.{AfterSet}
use Rattle.decoding.specs.Decode.{same}
use Rattle.sending.specs.Answers.{AfterSend}
use Rattle.protocol.specs.Owners.{owner_of}
use Rattle.protocol.specs.Records.{Value, look, setting}
use Rattle.protocol.specs.State.{Host, Letter, done}
use Rattle.protocol.specs.Delivery.{numbered, stored, replied}
use Rattle.protocol.specs.Process.{long, keeping, on_set, answering}
use Rattle.protocol.proofs.Entries.{above_setting}
use Rattle.hosts.specs.declared.State.{State}
use Rattle.hosts.specs.declared.Done.{Done}
use Rattle.hosts.specs.declared.Processed.{Processed}
use Rattle.hosts.specs.declared.Processed.TheVariants.{Replied, Dropped}
use Rattle.hosts.specs.Memory.{Memory}
use Rattle.hosts.specs.Keeps.{Core}
use Rattle.hosts.specs.Limits.{is_there, fits_value}
use Rattle.hosts.specs.Answers.{emptied, filled, sent_or, dropped_of, Does}
use Rattle.hosts.proofs.Sizes.{ShortValue, reply_good, reply_fits}
use Rattle.hosts.proofs.Tables.{keeps_length, put_is}
use Rattle.hosts.proofs.Core.{mailed, tabled, core_stored, does_dropped, name_short, has_number, answered}
use Rattle.referring.proofs.Laws.{given}
use Rattle.storing.specs.Answers.{row, AfterStore}

-- the definition's step for a key of the host's own and a value that is not too long, by whether it fits
row_as : (m M : Memory) (K : State) (R : Processed) (h : Host) (l : Letter) (key : ℕ) (v : Option Value) (fits : Bool) → long v ≡ false
    → same (owner_of h.owners key) h.me ≡ true → fits_value (length m.slots) h key v ≡ fits
    → Does M K R (keeping (numbered h l.from) fits h l key v) → Does M K R (row m key v h l)
row_as m M K R h l key v fits s o f D =
    subst (λ (t : Bool). Does M K R (on_set t (same (owner_of h.owners key) h.me) (fits_value (length m.slots) h key v) h l key v)) (sym s)
    (subst (λ (t : Bool). Does M K R (on_set false t (fits_value (length m.slots) h key v) h l key v)) (sym o)
    (subst (λ (t : Bool). Does M K R (on_set false true t h l key v)) (sym f) D))

-- a value that is not too long is one that a table keeps
short_value : (v : Option Value) → long v ≡ false → ShortValue v
short_value none e = tt
short_value (some v) e = ltb-false value_max (length v) e

module _ {m : Memory} {k : State} {key : ℕ} {v : Option Value} {p x n : ℕ} {keys slots lens values counts places mail : List ℕ} where
  settled : x < numbers → key < numbers
      → ((T : Table) → Keeps m.keys m.slots m.lens m.values k.entries T → Keeps keys slots lens values n (put key v T))
      → ((h : Host) → Core m k h → fits_value (length m.slots) h key v ≡ true) → (sent : Bool)
      → AfterSend m.name_lens m.names k.width m.counts m.places m.mail k.size k.from p x (λ n. Unit) (λ N. reply key v) sent counts places mail
      → AfterStore m k key v p x (sent_or (filled k n) sent (Replied p)) (mailed (tabled m keys slots lens values) counts places mail)
  settled small key-small tables fits true S = record {
    is = record {
      freed = refl;
      is = λ h l C H Q.
          let e = C.says.record_is in
          let s = C.says.sorted in
          let g = done h.owners (setting key v h.records) h.transfers h in
          let M = mailed (tabled m keys slots lens values) counts places mail in
          let A = S.sent refl k.peers C.N C.P (given m k p x h l C H Q.picked (λ n. Unit) tt) in
          let t : numbered h l.from ≡ true = has_number m k h C k.from H.from_in l.from H.from_is x (Q.picked.number_is C) small in
          let D =
          answered (tabled m keys slots lens values) (filled k n) g
          (core_stored m k h C keys slots lens values n (put key v C.T) (setting key v h.records) (tables C.T C.table_kept) (put_is C.T h.records e s key v)
          (above_setting key v h.records s))
          k.from H.from_in l.from H.from_is x (Q.picked.number_is C) small (reply key v) p counts places mail A.0 A.1 (Replied p)
          (some (record { from = l.from; number = l.number; act = stored key v }))
          refl in
          row_as m M (emptied (filled k n)) (Replied p) h l key v true Q.short Q.own (fits h C)
          (subst (λ (u : Bool). Does M (emptied (filled k n)) (Replied p) (keeping u true h l key v)) (sym t)
          (subst (λ (u : Bool). Does M (emptied (filled k n)) (Replied p)
          (answering u g l.from (reply key v) replied (some (record { from = l.from; number = l.number; act = stored key v })))) t D));
    };
  }
  settled small key-small tables fits false S = record {
    is = record {
      freed = refl;
      is = λ h l C H Q.
          let s = name_short m k h C k.from H.from_in in
          absurd ((S.unsent refl).3 k.peers C.N C.P (given m k p x h l C H Q.picked (λ n. Unit) tt)
          (reply_good k.width k.size C.sized x small (C.N k.from) s key v key-small (short_value v Q.short))
          (reply_fits k.width k.size C.sized x small (C.N k.from) s key v (short_value v Q.short)));
    };
  }

  pub settled_as : {sent : Bool} {r : Done} {f : State} → x < numbers → key < numbers
      → ((T : Table) → Keeps m.keys m.slots m.lens m.values k.entries T → Keeps keys slots lens values n (put key v T))
      → ((h : Host) → Core m k h → fits_value (length m.slots) h key v ≡ true)
      → AfterSend m.name_lens m.names k.width m.counts m.places m.mail k.size k.from p x (λ n. Unit) (λ N. reply key v) sent counts places mail
      → f ≡ filled k n → r ≡ sent_or f sent (Replied p) → AfterStore m k key v p x r (mailed (tabled m keys slots lens values) counts places mail)
  settled_as {sent} {r} {f} small key-small tables fits S e q =
      subst (λ (d : Done). AfterStore m k key v p x d (mailed (tabled m keys slots lens values) counts places mail))
      (ap (λ (g : State). sent_or g sent (Replied p)) (sym e) ∙ sym q)
      (settled small key-small tables fits sent S)

-- ---- does the value fit?

module _ {m : Memory} {k : State} {key n : ℕ} {v : Value} {keys slots lens values : List ℕ} where
  -- what was stored fits
  pub stored_fits : AfterSet m.keys m.slots m.lens m.values k.entries key v (Ok n) keys slots lens values → length slots ≡ length m.slots
      → (h : Host) → Core m k h → fits_value (length m.slots) h key (some v) ≡ true
  stored_fits A long h C = go (look key h.records) refl
    where
      go : (w : Option Value) → look key h.records ≡ w → cond (is_there w) true (ltb (length h.records) (length m.slots)) ≡ true
      go none e =
          let K = A.is C.T C.table_kept in
          let c = keeps_length C.T h.records C.says.record_is C.says.sorted _ _ _ _ _ C.table_kept in
          let s = size_new k.entries C.T key v (keeps_size _ _ _ _ _ C.T C.table_kept) (C.says.record_is key ∙ e) in
          let u = size_unique n (suc k.entries) (put key (some v) C.T) (keeps_size _ _ _ _ _ _ K) s in
          lt-ltb (length h.records) (length m.slots) (omega (arith, c, u, keeps_room _ _ _ _ _ _ K, long))
      go (some w) e = refl

-- ---- a refusal leaves memory as it was

tabled_same : (m : Memory) (keys slots lens values : List ℕ) → keys ≡ m.keys → slots ≡ m.slots → lens ≡ m.lens → values ≡ m.values
    → tabled m keys slots lens values ≡ m
tabled_same m keys slots lens values a b c d =
    ap (λ (x : List ℕ). tabled m x slots lens values) a
    ∙ ap (λ (x : List ℕ). tabled m m.keys x lens values) b
    ∙ ap (λ (x : List ℕ). tabled m m.keys m.slots x values) c
    ∙ ap (tabled m m.keys m.slots m.lens) d

module _ {m : Memory} {k : State} {key p x : ℕ} {v : Value} {keys slots lens values : List ℕ} {r : Done} where
  -- a key that is new to a full table is dropped
  drops : x < numbers → AfterSet m.keys m.slots m.lens m.values k.entries key v (Err Full) keys slots lens values → r ≡ dropped_of k
      → AfterStore m k key (some v) p x r (tabled m keys slots lens values)
  drops small A e =
      subst (λ (M : Memory). AfterStore m k key (some v) p x r M)
      (sym (tabled_same m keys slots lens values A.is.0 A.is.1 A.is.2 A.is.3))
      (subst (λ (d : Done). AfterStore m k key (some v) p x d m) (sym e)
      (record {
        is = record {
          freed = refl;
          is = λ h l C H Q.
              let w = A.is.4 C.T C.table_kept in
              let c = keeps_length C.T h.records C.says.record_is C.says.sorted _ _ _ _ _ C.table_kept in
              let u : look key h.records ≡ none = sym (C.says.record_is key) ∙ w.0 in
              let f : fits_value (length m.slots) h key (some v) ≡ false =
              rw u (le-ltb (length h.records) (length m.slots) (omega (arith, c, w.1))) in
              let t : numbered h l.from ≡ true = has_number m k h C k.from H.from_in l.from H.from_is x (Q.picked.number_is C) small in
              row_as m m (emptied k) Dropped h l key (some v) false Q.short Q.own f
              (subst (λ (u : Bool). Does m (emptied k) Dropped (keeping u false h l key (some v))) (sym t) (does_dropped m k h C Dropped refl));
        };
      }))

  -- a value that is not too long is not refused as too long
  never_long : AfterSet m.keys m.slots m.lens m.values k.entries key v (Err TooLong) keys slots lens values → r ≡ dropped_of k
      → AfterStore m k key (some v) p x r (tabled m keys slots lens values)
  never_long A e = record {
    is = record {
      freed = ap (λ (d : Done). d.state.len) e;
      is = λ h l C H Q. absurd (omega (arith, A.is.4, ltb-false value_max (length v) Q.short));
    };
  }

  pub not_stored : (e : Refused) → x < numbers → AfterSet m.keys m.slots m.lens m.values k.entries key v (Err e) keys slots lens values
      → r ≡ dropped_of k → AfterStore m k key (some v) p x r (tabled m keys slots lens values)
  not_stored Full small A q = drops small A q
  not_stored TooLong small A q = never_long A q
