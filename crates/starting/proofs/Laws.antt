-- Lent memory keeps the host that has started: the list of addresses judged and written down, and what each layer holds at first.
-- Assumes nothing.
use mathlib.Core.Path.{◌≡◌, refl, sym, ap, ◌∙◌, subst}
use mathlib.Core.Bool.{Bool, true, false, cond}
use mathlib.Core.List.{List}
use mathlib.Core.Option.{none}
use Prim.Native.Nat.{ℕ, ◌+◌, ◌*◌, ◌-◌, ◌≤◌, ◌<◌}
use native.Mathlib.Nat.{le-div_iff_mul-le, le-min}
use native.Mathlib.Omega.{arith}
use lib.ListN.{length, get_or}
use lib.Dec.{eqb}
use borrow.Author.Tests.{eqb-true}
use Rattle.limits.specs.Limits.{bytes_max}
use Rattle.message.specs.Message.{Address}
use Rattle.memory.proofs.Parts.{length_part}
use Rattle.strings.specs.Strings.{WellFormed, Inside, NoneLonger}
use Rattle.distinct.specs.Distinct.{string, Distinct}
use Rattle.records.specs.Table.{empty}
use Rattle.records.specs.Memory.{Shape, Keeps as KeepsTable}
use Rattle.records.specs.Answers.{AfterStart as TableStarted}
use Rattle.std.specs.Prelude.{Option, Some, None, Result, Ok, Err}
use Rattle.delegation.specs.Map.{Keeps as KeepsMap}
use Rattle.peers.specs.declared.Refused.{Refused}
use Rattle.peers.specs.declared.Refused.TheVariants.{Full, TooLong}
use Rattle.peers.specs.Names.{Keeps as KeepsNames, AfterAdd, joined, places as namePlaces}
use Rattle.delivery.specs.Post.{nothing}
use Rattle.delivery.specs.Memory.{Keeps as KeepsPost, capacity}
use Rattle.opening.specs.Answers.{Shape as MailShape, AfterStart as PostStarted}
use Rattle.protocol.specs.State.{start, fresh}
use Rattle.hosts.specs.declared.State.{State}
use Rattle.hosts.specs.Memory.{Memory, memory}
use Rattle.hosts.specs.Says.{firsts}
use Rattle.hosts.specs.Keeps.{Sized, Core, Keeps}
use Rattle.starting.specs.Answers.{addresses, AfterStart}
use Rattle.serving.specs.Answers.{Lengths, begun}
use Rattle.starting.specs.Inner.{NoLonger, Place, Own, Enlists}
use Rattle.starting.proofs.Lists.{none_alike, none_long, none_own, one_starts}

-- ---- the list

-- an address is as long as its length says
length_string : {ats lens : List ℕ} {n : ℕ} (bytes : List ℕ) → WellFormed ats lens n (length bytes) → (i : ℕ) → i < n
    → length (string ats lens bytes i) ≡ get_or lens i 0
length_string {ats} {lens} bytes W i p = length_part bytes (get_or ats i 0) (get_or lens i 0) (W.within i p)

-- where one is longer, not all are so short
one_longer : {lens : List ℕ} {n most : ℕ} {r : Bool} → NoneLonger lens n most r → r ≡ false → NoLonger lens n most → ⊥
one_longer T e f = let w = T.no e in omega (arith, w.2, f w.0 w.1)

module _ {ats lens bytes : List ℕ} {n : ℕ} {me : Address} where
  none_starts : (WellFormed ats lens n (length bytes) → start (addresses ats lens bytes n) me ≡ none) → Own ats lens bytes n me None
  none_starts f = record { is = f }

  -- the columns do not fit together
  pub unformed : {r : Bool} → Inside ats lens n (length bytes) r → r ≡ false → Own ats lens bytes n me None
  unformed I e = none_starts (λ W. absurd (I.no e W))

  -- two addresses are equal
  pub repeats : {r : Bool} → Distinct ats lens n bytes r → r ≡ false → Own ats lens bytes n me None
  repeats D e =
      none_starts
      (λ W. let s = D.no e W in none_alike (string ats lens bytes) n me s.0 s.1 s.2 s.3 s.4)

  -- one is too long
  pub lengthy : {r : Bool} → NoneLonger lens n (bytes_max - 1) r → r ≡ false → Own ats lens bytes n me None
  lengthy T e =
      none_starts
      (λ W. none_long (string ats lens bytes) n me (λ f. one_longer T e (λ i p. omega (arith, f i p, length_string bytes W i p))))

  -- the list is in order, and the own address was looked for
  pub sought : {q : Bool} (r : Option ℕ) → WellFormed ats lens n (length bytes) → Distinct ats lens n bytes q → q ≡ true
      → NoLonger lens n (bytes_max - 1) → Place ats lens bytes n me r → Own ats lens bytes n me r
  sought (Some p) W D e L P = record {
    is = (
      P.is.0,
      record {
        listed = record { formed = W; distinct = D.yes e };
        me_is = P.is.1;
        host = one_starts (string ats lens bytes) n me (D.yes e) (λ i l. omega (arith, L i l, length_string bytes W i l)) p P.is.0 P.is.1;
      },
    );
  }
  sought None W D e L P = record { is = λ X. none_own (string ats lens bytes) n me P.is }

-- ---- the addresses written down

-- the addresses with that of peer i where it stands already
rejoined : (N : ℕ → Address) (i j : ℕ) → joined i (N i) N j ≡ N j
rejoined N i j = go (eqb j i) refl
  where
    go : (t : Bool) → eqb j i ≡ t → cond t (N i) (N j) ≡ N j
    go true e = ap N (sym (eqb-true j i e))
    go false e = refl

module _ {L M width : ℕ} {ats lens bytes : List ℕ} {n : ℕ} (E : Enlists L M width ats lens bytes n) where
  -- one more: none of the reasons for which an address is refused holds
  module _ {name_lens names : List ℕ} {i : ℕ} (h : i < n) (l : length name_lens ≡ L) (m : length names ≡ M)
      (K : KeepsNames name_lens names width i (string ats lens bytes)) where
    abbrev N : ℕ → Address
    N = string ats lens bytes

    pub enlisted_more : {nameLens' names' : List ℕ} (r : Result ℕ Refused) → AfterAdd name_lens names width i (string ats lens bytes i) r nameLens' names'
        → KeepsNames nameLens' names' width (i + 1) (string ats lens bytes)
    enlisted_more (Ok j) A =
        let D = E.listed.distinct in
        let J = A.is.1 N K (λ k p e. let z : k ≡ i = D k i (omega arith) h e in omega (arith, z)) in
        record {
          wide = J.wide;
          fits_lens = J.fits_lens;
          fits_names = J.fits_names;
          short = J.short;
          is = λ k p. J.is k p ∙ rejoined N i k;
          distinct = λ x y p q e. D x y (omega arith) (omega arith) e;
        }
    enlisted_more (Err Full) A =
        let f : n ≤ namePlaces name_lens names width =
        le-min (omega (arith, E.fits_lens)) ((le-div_iff_mul-le E.wide).1 (omega (arith, E.fits_names))) in
        absurd (omega (arith, f, A.is.2 E.wide))
    enlisted_more (Err TooLong) A = absurd (omega (arith, A.is.2, E.short i h, length_string bytes E.listed.formed i h))

-- ---- what each layer holds at first

table_ready : {keys slots lens values slots' : List ℕ} (r : Bool) → TableStarted keys slots lens values r slots'
    → Shape (length keys) (length slots) (length lens) (length values) 0 → KeepsTable keys slots' lens values 0 empty
table_ready true A s = A.ready refl
table_ready false A s = absurd ((A.unfit refl).1 s)

post_ready : {counts places mail counts' places' : List ℕ} {size n : ℕ} (r : Bool) → PostStarted counts places mail size r counts' places'
    → MailShape (capacity places) (length mail) size → n * 3 ≤ length counts → KeepsPost counts' places' mail size n nothing
post_ready {n = n} true A s h = A.ready refl n h
post_ready false A s h = absurd ((A.unfit refl).2 s)

-- ---- what is lent

-- the lengths of memory serve
abbrev pub Long : Memory → (room : List ℕ) → (width size n : ℕ) → Type 0
Long m room width size n =
    Lengths (length m.lows) (length m.owners) (length m.keys) (length m.slots) (length m.lens) (length m.values) (length m.name_lens) (length m.names) (length m.counts) (length m.places) (length m.mail) (length room) width size n

-- ---- the host

fresh_core : {lows owners keys slots lens values name_lens names counts places mail : List ℕ} {own n width size bounds : ℕ} {N : ℕ → Address}
    {me : Address} → Sized width size → KeepsNames name_lens names width n N → KeepsMap lows owners bounds (λ k. 0)
    → KeepsTable keys slots lens values 0 empty → KeepsPost counts places mail size n nothing → own < n → N own ≡ me
    → Core (memory lows owners keys slots lens values name_lens names counts places mail) (begun own n width size bounds) (fresh (N 0) (firsts N n) me)
fresh_core {N = N} Z K F T P h e = record {
  N = N;
  f = λ k. 0;
  T = empty;
  P = nothing;
  sized = Z;
  names_kept = K;
  map_kept = F;
  table_kept = T;
  post_kept = P;
  says = record {
    few = omega arith;
    own = h;
    me_is = e;
    hosts_are = refl;
    peers_are = refl;
    owner_in = λ k. omega arith;
    owner_is = λ k. refl;
    record_is = λ k. refl;
    sorted = tt;
    received_is = λ i p. refl;
    acknowledged_is = λ i p. refl;
    waiting_is = λ i p. refl;
    strange_received = λ a s. refl;
    strange_acknowledged = λ a s. refl;
    strange_waiting = λ a s. refl;
  };
  transfers_is = refl;
  turns_is = refl;
}

-- ---- the answers

module _ {ats addressLens bytes : List ℕ} {own n : ℕ} {me : Address} (O : Own ats addressLens bytes n me (Some own)) where
  -- all is written
  pub started : {lows owners keys slots lens values name_lens names counts places mail room : List ℕ} {width size : ℕ}
      {lows' owners' slots' nameLens' names' counts' places' : List ℕ} {bounds : ℕ} {k : State} {r q : Bool}
      → Long (memory lows owners keys slots lens values name_lens names counts places mail) room width size n
      → KeepsMap lows' owners' bounds (λ x. 0) → TableStarted keys slots lens values r slots'
      → PostStarted counts places mail size q counts' places' → KeepsNames nameLens' names' width n (string ats addressLens bytes)
      → k ≡ begun own n width size bounds
      → AfterStart (memory lows owners keys slots lens values name_lens names counts places mail) room width size ats addressLens bytes n me (Ok k) (memory lows' owners' keys slots' lens values nameLens' names' counts' places' mail)
  started {keys = keys} {lens = lens} {values = values} {places = places} {mail = mail} {room = room} {size = size} {lows' = lows'} {owners' = owners'} {slots' = slots'} {nameLens' = nameLens'} {names' = names'} {counts' = counts'} {places' = places'} {r = r} {q = q} L F T P K e =
      let N = string ats addressLens bytes in
      let S = O.is.1 in
      let M : MailShape (capacity places) (length mail) size = record { wide = omega (arith, L.datagrams.least); fits_mail = L.fits_mail } in
      let m = memory lows' owners' keys slots' lens values nameLens' names' counts' places' mail in
      let C = fresh_core L.datagrams.sized K F (table_ready r T L.table) (post_ready q P M L.fits_counts) O.is.0 S.me_is in
      record {
        is = (
          fresh (N 0) (firsts N n) me,
          S.host,
          subst (λ (x : State). Keeps m x room (fresh (N 0) (firsts N n) me)) (sym e) (record { core = C; room_is = refl }),
        );
      }
