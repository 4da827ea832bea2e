-- Each row of the table is the definition's.
-- Assumes nothing.
use mathlib.Core.Path.{◌≡◌, refl, sym, ap, ◌∙◌, subst}
use mathlib.Core.Logic.{inl, inr}
use mathlib.Core.Bool.{Bool, true, false}
use mathlib.Core.List.{List}
use Rattle.std.specs.Prelude.{Option}
use mathlib.Core.Option.{Option as Maybe, none}
use Prim.Native.Nat.{ℕ, ◌-◌, ◌≤◌, ◌<◌}
use native.Mathlib.Omega.{arith}
use lib.ListN.{length}
use lib.Dec.{ltb}
use borrow.Author.Tests.{lt-ltb, le-ltb}
use Rattle.limits.specs.Limits.{transfers_limit}
use Rattle.keys.specs.declared.Bound.{Bound}
use Rattle.format.specs.declared.Part.{Part}
use Rattle.message.specs.Message.{Address, Body}
use Rattle.message.specs.declared.ListView.{ListView}
use Rattle.message.specs.declared.BodyView.{BodyView}
use Rattle.message.specs.declared.BodyView.TheVariants.{Get, Set, Reply, Redirect, Shard, Delegate}
use Rattle.format.specs.Format.{Entry}
use Rattle.format.specs.Place.{listed}
use Rattle.message.specs.View.{bytes_of, value_of, body_of, BodyIn}
use Rattle.decoding.specs.Decode.{same}
use Rattle.protocol.specs.State.{Host, Letter}
use Rattle.protocol.specs.Delivery.{Step, Outcome, Request, numbered, still, dropped, stuck}
use Rattle.protocol.specs.Records.{Value}
use Rattle.protocol.specs.Owners.{owner_of}
use Rattle.protocol.specs.Process.{free, answering, on_get, long, keeping, on_set, unfit, on_delegate, refused, handing, on_shard, on_body}
use Rattle.hosts.specs.declared.State.{State}
use Rattle.hosts.specs.declared.Done.{Done}
use Rattle.hosts.specs.declared.Processed.TheVariants.{Stuck, Dropped}
use Rattle.hosts.specs.Memory.{Memory}
use Rattle.hosts.specs.Limits.{Needs, fits_value}
use Rattle.hosts.specs.Keeps.{Core, limits_of}
use Rattle.hosts.specs.Answers.{emptied, dropped_of, Does, AfterRow}
use Rattle.hosts.proofs.Core.{does_dropped}
use Rattle.getting.specs.Answers.{AfterGet}
use Rattle.setting.specs.Answers.{AfterSet}
use Rattle.accepting.specs.Answers.{Takeable, row as delegateRow}
use Rattle.handing.specs.Answers.{Handable, row as shardRow}
use Rattle.staying.specs.Answers.{unchanged}
use Rattle.rows.specs.Answers.{step_for, AfterBody}

-- ---- a row frees the room

answering_frees : (t : Bool) (h : Host) (a : Address) (b : Body) (o : Outcome) (x : Maybe Request) → h.room ≡ none → (answering t h a b o x).state.room ≡ none
answering_frees true h a b o x e = e
answering_frees false h a b o x e = e

get_frees : (t : Bool) (h : Host) (l : Letter) (k : ℕ) → (on_get t h l k).state.room ≡ none
get_frees true h l k = answering_frees (numbered h l.from) (free h) l.from _ _ _ refl
get_frees false h l k = answering_frees (numbered h l.from) (free h) l.from _ _ _ refl

keeping_frees : (t fits : Bool) (h : Host) (l : Letter) (k : ℕ) (v : Maybe Value) → (keeping t fits h l k v).state.room ≡ none
keeping_frees true true h l k v = refl
keeping_frees true false h l k v = refl
keeping_frees false fits h l k v = refl

set_frees : (long mine fits : Bool) (h : Host) (l : Letter) (k : ℕ) (v : Maybe Value) → (on_set long mine fits h l k v).state.room ≡ none
set_frees true mine fits h l k v = refl
set_frees false true fits h l k v = keeping_frees (numbered h l.from) fits h l k v
set_frees false false fits h l k v = answering_frees (numbered h l.from) (free h) l.from _ _ _ refl

delegate_frees : (t : Bool) (h : Host) (l : Letter) (lo hi : Bound) (es : List Entry) → (on_delegate t h l lo hi es).state.room ≡ none
delegate_frees true h l lo hi es = refl
delegate_frees false h l lo hi es = refl

shard_frees : (t : Bool) (h : Host) (lo hi : Bound) (a : Address) → (on_shard t h lo hi a).state.room ≡ none
shard_frees true h lo hi a = refl
shard_frees false h lo hi a = go (numbered h a)
  where
    go : (t : Bool) → (handing t h lo hi a).state.room ≡ none
    go true = refl
    go false = refl

-- ---- rows

few : (m : Memory) (k : State) → k.transfers < transfers_limit - 2 → (h : Host) → Core m k h → ltb h.transfers (transfers_limit - 2) ≡ true
few m k q h C = lt-ltb h.transfers (transfers_limit - 2) (omega (arith, q, C.transfers_is))

module _ {m m' : Memory} {k : State} {s : List ℕ} {r : Done} where
  -- a row whose needs are there and which frees the room
  by_row : (b : BodyView) {needs : Host → Letter → Type 0} {row : Host → Letter → Step} → AfterRow m k needs row r m'
      → ((room : List ℕ) (h : Host) (l : Letter) → Core m k h → BodyIn s b → Needs (limits_of m k room) h l (body_of s b) → needs h l)
      → ((h : Host) (l : Letter) → Core m k h → row h l ≡ step_for m s b h l) → ((h : Host) (l : Letter) → (row h l).state.room ≡ none)
      → AfterBody m k s b r m'
  by_row b A n e f = record {
    is = λ room h l C H I N. subst (Does m' r.state r.outcome) (e h l C) (A.is h l C H (n room h l C I N));
    leaves = λ h l C. inr (ap (λ (t : Step). t.state.room) (sym (e h l C)) ∙ f h l, A.freed);
  }

  pub gets : {b : BodyView} {key : ℕ} → b ≡ Get key → AfterGet m k key r m' → AfterBody m k s b r m'
  gets {key = key} e A =
      rw e (by_row (Get key) A.is (λ room h l C I N. N) (λ h l C. refl) (λ h l. get_frees (same (owner_of h.owners key) h.me) h l key))

  pub sets : {b : BodyView} {key : ℕ} {v : Option Part} → b ≡ Set key v → AfterSet m k s key v r m' → AfterBody m k s b r m'
  sets {key = key} {v = v} e A =
      rw e (by_row (Set key v) A.is (λ room h l C I N. record { inside = I; place = N }) (λ h l C. refl) (λ h l. set_frees (long (value_of s v)) (same (owner_of h.owners key) h.me) (fits_value (length m.slots) h key (value_of s v)) h l key (value_of s v)))

  pub shards : {b : BodyView} {lo hi : Bound} {to : Part} → b ≡ Shard lo hi to → k.transfers < transfers_limit - 2
      → AfterRow m k (Handable m.lows m.owners m.places s lo hi to) (shardRow s lo hi to) r m' → AfterBody m k s b r m'
  shards {lo = lo} {hi = hi} {to = to} e q A =
      rw e (by_row (Shard lo hi to) A
      (λ room h l C I N. record { few = few m k q h C; inside = I; place = λ f. (N f).0; bounds = λ f. (N f).1 })
      (λ h l C. ap (λ (t : Bool). on_body t true h l (body_of s (Shard lo hi to))) (sym (few m k q h C)))
      (λ h l. shard_frees (refused h lo hi (bytes_of s to)) h lo hi (bytes_of s to)))

  pub delegates : {b : BodyView} {lo hi : Bound} {list : ListView} → b ≡ Delegate lo hi list → k.transfers < transfers_limit - 2
      → AfterRow m k (Takeable m.lows m.owners m.slots s lo hi list) (delegateRow s lo hi list) r m' → AfterBody m k s b r m'
  delegates {lo = lo} {hi = hi} {list = list} e q A =
      rw e (by_row (Delegate lo hi list) A
      (λ room h l C I N. record { few = few m k q h C; inside = I; bounds = λ f. (N f).0; entries = λ f. (N f).1 })
      (λ h l C. ap (λ (t : Bool). on_body t true h l (body_of s (Delegate lo hi list))) (sym (few m k q h C)))
      (λ h l. delegate_frees (unfit h l lo hi (listed s list.at list.count)) h l lo hi (listed s list.at list.count)))

module _ {m : Memory} {k : State} {s : List ℕ} {r : Done} where
  -- a Reply or a Redirect is dropped
  dropping : (b : BodyView) → ((h : Host) (l : Letter) → still (free h) dropped ≡ step_for m s b h l) → r ≡ dropped_of k → AfterBody m k s b r m
  dropping b e q = rw q (record {
    is = λ room h l C H I N. subst (Does m (emptied k) Dropped) (e h l) (does_dropped m k h C Dropped refl);
    leaves = λ h l C. inr (ap (λ (t : Step). t.state.room) (sym (e h l)), refl);
  })

  pub replies : {b : BodyView} {key : ℕ} {v : Option Part} → b ≡ Reply key v → r ≡ dropped_of k → AfterBody m k s b r m
  replies {key = key} {v = v} e q = rw e (dropping (Reply key v) (λ h l. refl) q)

  pub redirects : {b : BodyView} {key : ℕ} {a : Part} → b ≡ Redirect key a → r ≡ dropped_of k → AfterBody m k s b r m
  redirects {key = key} {a = a} e q = rw e (dropping (Redirect key a) (λ h l. refl) q)
