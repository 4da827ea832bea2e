-- When a Delegate is taken, and what taking it makes of the host that memory keeps.
-- Assumes nothing.
use mathlib.Core.Path.{◌≡◌, refl, sym, ap, ap₂, ◌∙◌, subst}
use mathlib.Core.Logic.{⊎_elim}
use mathlib.Core.Bool.{Bool, true, false, ◌&&◌, ◌||◌, not}
use mathlib.Core.List.{List, [], ◌∷◌}
use Prim.Native.Nat.{ℕ, zero, suc, ◌+◌}
use native.Mathlib.Omega.{arith}
use lib.ListN.{length, get_or}
use lib.Dec.{ltb, leb}
use borrow.Author.Tests.{lt-ltb, le-ltb, le-leb, lt-leb}
use Rattle.limits.specs.Limits.{entries_limit}
use Rattle.keys.specs.declared.Bound.{Bound}
use Rattle.keys.specs.Bound.{below}
use Rattle.columns.proofs.Cases.{lt_or_ge}
use Rattle.memory.specs.Bytes.{part}
use Rattle.format.specs.Format.{Entry, Above}
use Rattle.message.specs.Message.{Address}
use Rattle.records.specs.Table.{Value, replaced, Listed}
use Rattle.std.specs.Prelude.{Ok, Err}
use Rattle.limits.specs.declared.NoRoom.{NoRoom}
use Rattle.delegation.specs.Map.{updated, room, AfterSet}
use Rattle.entries.specs.declared.Refused.{Refused}
use Rattle.entries.specs.declared.Refused.TheVariants.{Full, TooLong, Malformed}
use Rattle.entered.specs.Entered.{Entered}
use Rattle.entries.specs.Answers.{AfterReplace}
use Rattle.protocol.specs.Address.{among}
use Rattle.protocol.specs.Records.{look, replacing}
use Rattle.protocol.specs.Owners.{owner_of, giving}
use Rattle.protocol.specs.State.{Host, Letter}
use Rattle.protocol.specs.Delivery.{Step}
use Rattle.protocol.specs.Process.{any_long, unfit, on_delegate}
use Rattle.protocol.proofs.Entries.{above_replacing}
use Rattle.hosts.specs.declared.State.{State}
use Rattle.hosts.specs.declared.Done.{Done}
use Rattle.hosts.specs.declared.Processed.TheVariants.{Accepted}
use Rattle.hosts.specs.Memory.{Memory, memory}
use Rattle.hosts.specs.Limits.{Bounded}
use Rattle.hosts.specs.Keeps.{Core}
use Rattle.hosts.specs.Answers.{moved, Does, Heard}
use Rattle.hosts.proofs.Core.{name_is}
use Rattle.hosts.proofs.Says.{says_done}
use Rattle.hosts.proofs.Maps.{among_hosts, giving_is, giving_in, set_done}
use Rattle.hosts.proofs.Tables.{key_at, value_at, made, made_is, listed_of, replaced_is, size_replaced}
use Rattle.delegates.specs.Answers.{entry_at, Filled}
use Rattle.accepting.specs.Inner.{Ready}

-- ---- when it is dropped

pub leb_not : (a b : ℕ) → leb b a ≡ not (ltb a b)
leb_not a b = ⊎_elim (λ q. lt-leb b a q ∙ ap not (sym (lt-ltb a b q))) (λ q. le-leb b a q ∙ ap not (sym (le-ltb a b q))) (lt_or_ge a b)

-- the definition's tests, those of numbers first
tests : (a b c d : Bool) → not a || (not b || (d || not c)) ≡ not (a && (b && c)) || d
tests false b c d = refl
tests true false c d = refl
tests true true false true = refl
tests true true false false = refl
tests true true true true = refl
tests true true true false = refl

-- it is unfit if the numbers say so, or a value is too long
pub unfit_is : (m : Memory) (k : State) (h : Host) (C : Core m k h) (l : Letter) → Heard m k l → (lo hi : Bound) (es : List Entry)
    → unfit h l lo hi es ≡ not (below lo hi && (ltb (length es) entries_limit && ltb k.from k.hosts)) || any_long es
unfit_is m k h C l H lo hi es =
    let a : among l.from h.hosts ≡ ltb k.from k.hosts =
    subst (λ (x : Address). among x h.hosts ≡ ltb k.from k.hosts) (sym (name_is m k h C k.from H.from_in) ∙ H.from_is)
    (among_hosts m k h C k.from H.from_in) in
    ap₂ (λ (x y : Bool). not (below lo hi) || (x || (any_long es || not y))) (leb_not (length es) entries_limit) a
    ∙ tests (below lo hi) (ltb (length es) entries_limit) (ltb k.from k.hosts) (any_long es)

-- ---- the columns list the entries

key_at_lem : (l : List Entry) (i : ℕ) → (entry_at l i).key ≡ key_at l i
key_at_lem [] i = refl
key_at_lem (e ∷ l) zero = refl
key_at_lem (e ∷ l) (suc i) = key_at_lem l i

value_at_lem : (l : List Entry) (i : ℕ) → (entry_at l i).value ≡ value_at l i
value_at_lem [] i = refl
value_at_lem (e ∷ l) zero = refl
value_at_lem (e ∷ l) (suc i) = value_at_lem l i

-- columns that a list with rising keys was written down in list its entries
pub filled_listed : (s : List ℕ) (es : List Entry) (ks ats ls : List ℕ) (n : ℕ) → Filled s es ks ats ls → length es ≡ n → Above 0 es
    → Listed n (λ i. get_or ks i 0) (λ i. part s (get_or ats i 0) (get_or ls i 0)) (λ x. look x es)
filled_listed s es ks ats ls n F e a =
    listed_of es a n key val
    (subst (λ (x : ℕ). made key val 0 x ≡ es) e
    (made_is key val 0 es
    (λ j q. let z : 0 + j ≡ j = omega arith in ap key z ∙ (F.each j q).key ∙ key_at_lem es j)
    (λ j q. let z : 0 + j ≡ j = omega arith in ap val z ∙ (F.each j q).value ∙ value_at_lem es j)))
  where
    key : ℕ → ℕ
    key i = get_or ks i 0

    val : ℕ → Value
    val i = part s (get_or ats i 0) (get_or ls i 0)

module _ (m : Memory) (k : State) (h : Host) (C : Core m k h) (s : List ℕ) (lo hi : Bound) (ks ats ls : List ℕ) (n : ℕ) (es : List Entry)
    (R : Ready m.lows m.owners m.slots s lo hi ks ats ls n h es) where
  abbrev key : ℕ → ℕ
  key i = get_or ks i 0

  abbrev val : ℕ → Value
  val i = part s (get_or ats i 0) (get_or ls i 0)

  lists : Listed n key val (λ x. look x es)
  lists = filled_listed s es ks ats ls n R.filled R.count R.above

  -- so it is not answered that the map has no room
  pub set_fits : {e : NoRoom} (lows owners : List ℕ) → AfterSet m.lows m.owners k.bounds lo hi k.me (Err e) lows owners
      → (m' : Memory) (r : Done) (x : Step) → Does m' r.state r.outcome x
  set_fits lows owners A m' r x =
      absurd
      (set_done m k h C lo hi k.me C.says.own lows owners
      (subst (λ (a : Address). Bounded (room m.lows m.owners) h (giving lo hi a h.owners)) (sym C.says.me_is) R.bounds) A)

  entered : Entered ks ats ls s n
  entered = record {
    fits_keys = omega (arith, R.count, R.filled.fits_keys);
    fits_ats = omega (arith, R.count, R.filled.fits_ats);
    fits_lens = omega (arith, R.count, R.filled.fits_lens);
    rising = lists.rising;
    inside = λ i q. (R.filled.each i (omega (arith, R.count))).inside;
  }

  -- .. nor any refusal of the entries
  pub replace_fits : (q : Refused) (keys slots lens values : List ℕ)
      → AfterReplace m.keys m.slots m.lens m.values k.entries lo hi ks ats ls s n (Err q) keys slots lens values → ⊥
  replace_fits Full keys slots lens values A =
      let f = A.is.4 C.T C.table_kept val in
      omega (arith, f.2, R.entries, size_replaced C.T h.records C.says.record_is C.says.sorted lo hi es R.above n key val lists f.0 f.1)
  replace_fits TooLong keys slots lens values A =
      let f = A.is.4 in
      omega (arith, f.2, (R.filled.each f.0 (omega (arith, f.1, R.count))).short)
  replace_fits Malformed keys slots lens values A = A.is.4 entered

  -- and the host has the range with the entries
  pub does_taken : (bounds entries : ℕ) (lows owners keys slots lens values : List ℕ)
      → AfterSet m.lows m.owners k.bounds lo hi k.me (Ok bounds) lows owners
      → AfterReplace m.keys m.slots m.lens m.values k.entries lo hi ks ats ls s n (Ok entries) keys slots lens values
      → (l : Letter) (r : Done) → r ≡ record { state = moved k bounds entries; outcome = Accepted }
      → Does (memory lows owners keys slots lens values m.name_lens m.names m.counts m.places m.mail) r.state r.outcome
      (on_delegate false h l lo hi es)
  does_taken bounds entries lows owners keys slots lens values A B l r e =
      let owner : (x : ℕ) → C.N (updated lo hi k.me C.f x) ≡ owner_of (giving lo hi h.me h.owners) x = λ x.
      subst (λ (a : Address). C.N (updated lo hi k.me C.f x) ≡ owner_of (giving lo hi a h.owners) x) C.says.me_is
      (giving_is m k h C lo hi k.me C.says.own x) in
      subst
      (λ (u : Done). Does (memory lows owners keys slots lens values m.name_lens m.names m.counts m.places m.mail) u.state u.outcome (on_delegate false h l lo hi es))
      (sym e)
      (record {
        core = record {
          N = C.N;
          f = updated lo hi k.me C.f;
          T = replaced lo hi n key val C.T;
          P = C.P;
          sized = C.sized;
          names_kept = C.names_kept;
          map_kept = A.is C.f C.map_kept;
          table_kept = B.is C.T C.table_kept;
          post_kept = C.post_kept;
          says = says_done _ _ _ _ _ _ _ h C.says (updated lo hi k.me C.f) (replaced lo hi n key val C.T) (giving lo hi h.me h.owners)
              (replacing lo hi es h.records)
              (suc h.transfers)
              (giving_in m k h C lo hi k.me C.says.own)
              owner
              (replaced_is C.T h.records C.says.record_is C.says.sorted lo hi es R.above n key val lists)
              (above_replacing lo hi es h.records C.says.sorted);
          transfers_is = ap suc C.transfers_is;
          turns_is = C.turns_is;
        };
        outcome = refl;
        sends = refl;
      })
