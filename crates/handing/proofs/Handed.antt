-- A range handed over: the columns are the range's entries, their Delegate may be written and fits, and memory then keeps the definition's host.
-- Assumes nothing.
use mathlib.Core.Path.{◌≡◌, refl, sym, ap, ap₂, ◌∙◌, subst}
use mathlib.Core.Bool.{Bool, true, false, cond}
use mathlib.Core.List.{List, [], ◌∷◌}
use Prim.Native.Nat.{ℕ, zero, suc, ◌-◌, ◌≤◌, ◌<◌}
use native.Mathlib.Omega.{arith}
use lib.ListN.{length, get_or}
use borrow.Author.Tests.{lt-ltb, le-ltb}
use Rattle.limits.specs.Limits.{numbers, value_max, bytes_max, entries_limit}
use Rattle.keys.specs.declared.Bound.{Bound}
use Rattle.keys.specs.Bound.{holds}
use Rattle.memory.specs.Bytes.{part}
use Rattle.format.specs.Format.{Entry, number, maybe, entries, Above, Small, Good}
use Rattle.message.specs.Message.{Address, message, delegate}
use Rattle.message.specs.Table.{key_of, written, Valid}
use Rattle.message.proofs.Laws.{Short, few_fit}
use Rattle.delegating.specs.Columns.{entered}
use Rattle.delegating.proofs.Entered.{entered_length}
use Rattle.records.specs.Table.{Table, removed, within, Listed}
use Rattle.records.specs.Memory.{Keeps as KeepsTable}
use Rattle.records.proofs.Laws.{keeps_short}
use Rattle.delegation.specs.Map.{Keeps as KeepsMap, updated}
use Rattle.delivery.specs.Post.{posted, last}
use Rattle.delivery.specs.Memory.{Keeps as KeepsPost, Standing, mark_at}
use Rattle.protocol.specs.Records.{look, kept, in_range, outside}
use Rattle.protocol.specs.Owners.{giving}
use Rattle.protocol.specs.State.{Host, done}
use Rattle.protocol.specs.Delivery.{posted as sent, next, numbered}
use Rattle.protocol.specs.Process.{handing}
use Rattle.protocol.proofs.Entries.{above_kept}
use Rattle.hosts.specs.declared.State.{State}
use Rattle.hosts.specs.declared.Processed.TheVariants.{Unnumbered, Handed}
use Rattle.hosts.specs.Memory.{Memory, memory, name_at}
use Rattle.hosts.specs.Keeps.{Core}
use Rattle.hosts.specs.Answers.{moved, Does}
use Rattle.hosts.proofs.Says.{last_is, says_done, says_posted}
use Rattle.hosts.proofs.Sizes.{delegate_fits}
use Rattle.hosts.proofs.Tables.{key_at, value_at, made, list_listed, removed_is, made_within}
use Rattle.hosts.proofs.Maps.{giving_is, giving_in}
use Rattle.hosts.proofs.Core.{name_is, name_short}

-- ---- the columns

entered_made : (ks ats ls bytes : List ℕ) (i m : ℕ)
    → entered ks ats ls bytes i m ≡ made (λ j. get_or ks j 0) (λ j. part bytes (get_or ats j 0) (get_or ls j 0)) i m
entered_made ks ats ls bytes i zero = refl
entered_made ks ats ls bytes i (suc m) =
    ap (λ (l : List Entry). record { key = get_or ks i 0; value = part bytes (get_or ats i 0) (get_or ls i 0) } ∷ l) (entered_made ks ats ls bytes (suc i) m)

-- what was picked out of the table is the list's range
pub entered_range : (ks ats ls bytes : List ℕ) (T : Table) (l : List Entry) → ((x : ℕ) → T x ≡ look x l) → Above 0 l → (lo hi : Bound) (m : ℕ)
    → Listed m (λ j. get_or ks j 0) (λ j. part bytes (get_or ats j 0) (get_or ls j 0)) (within lo hi T) → entered ks ats ls bytes 0 m ≡ in_range lo hi l
entered_range ks ats ls bytes T l e a lo hi m L = entered_made ks ats ls bytes 0 m ∙ made_within T l e a lo hi m _ _ L

-- ---- values are short, so the list may be written

short_list : (l : List Entry) → ((i : ℕ) → i < length l → length (value_at l i) ≤ value_max) → Short l
short_list [] h = tt
short_list (e ∷ l) h = (h 0 (omega arith), short_list l (λ i q. h (suc i) (omega arith)))

short_kept : (p : ℕ → Bool) (l : List Entry) → Short l → Short (kept p l)
short_kept p [] h = tt
short_kept p (e ∷ l) h = go (p e.key) (short_kept p l h.1)
  where
    go : (t : Bool) → Short (kept p l) → Short (cond t (e ∷ kept p l) (kept p l))
    go true r = (h.0, r)
    go false r = r

small_entered : (ks ats ls bytes : List ℕ) → ((i : ℕ) → get_or ks i 0 < numbers) → (i m : ℕ) → Short (entered ks ats ls bytes i m)
    → Small (entered ks ats ls bytes i m)
small_entered ks ats ls bytes b i zero h = tt
small_entered ks ats ls bytes b i (suc m) h = (b i, omega (arith, h.0), small_entered ks ats ls bytes b (suc i) m h.1)

module _ (m : Memory) (k : State) (h : Host) (C : Core m k h) (lo hi : Bound) (i : ℕ) (host : i < k.hosts) where
  in_peers : i < k.peers
  in_peers = omega (arith, host, C.says.few)

  short_range : Short (in_range lo hi h.records)
  short_range =
      let L = list_listed C.T h.records C.says.record_is C.says.sorted in
      short_kept (holds lo hi) h.records
      (short_list h.records (λ j q. keeps_short _ _ _ _ _ C.T C.table_kept (key_at h.records j) (value_at h.records j) (L.has j q)))

  -- ---- the Delegate

  module _ (ks ats ls bytes : List ℕ) (n : ℕ) (e : entered ks ats ls bytes 0 n ≡ in_range lo hi h.records) (few : n < entries_limit)
      (x : ℕ) (small : x < numbers) where
    short : Short (entered ks ats ls bytes 0 n)
    short = subst Short (sym e) short_range

    -- .. may be written
    pub delegate_valid : Good (maybe number) (key_of lo) → Good (maybe number) (key_of hi) → ((j : ℕ) → get_or ks j 0 < numbers)
        → Valid (message x (C.N i) (delegate lo hi (entered ks ats ls bytes 0 n)))
    delegate_valid low high keys =
        let s = name_short m k h C i in_peers in
        let w = C.sized.address in
        let c = entered_length ks ats ls bytes 0 n in
        let g : Good (entries bytes_max) (entered ks ats ls bytes 0 n) = (
          omega (arith, c, few),
          small_entered ks ats ls bytes keys 0 n short,
          subst (Above 0) (sym e) (above_kept (holds lo hi) 0 h.records C.says.sorted),
          few_fit (entered ks ats ls bytes 0 n) (omega (arith, c, few)) short,
        ) in
        (omega arith, (small, ((omega (arith, s, w), omega (arith, s, w)), (omega arith, ((low, high), g)))))

    -- .. and fits a place
    pub delegate_short : length (written (message x (C.N i) (delegate lo hi (entered ks ats ls bytes 0 n)))) ≤ k.size
    delegate_short =
        delegate_fits k.width k.size C.sized x small (C.N i) (name_short m k h C i in_peers) lo hi (entered ks ats ls bytes 0 n)
        (omega (arith, entered_length ks ats ls bytes 0 n, few))
        short

  -- ---- the host after it

  -- the number that was picked is the definition's
  number_is : (x : ℕ) → x ≡ suc (last C.P i) → x ≡ next h (C.N i)
  number_is x e = e ∙ last_is _ _ _ _ _ _ _ h C.says i in_peers

  -- the memory with another map, another table, and other words and mail
  abbrev over : (lows owners keys slots counts places mail : List ℕ) → Memory
  over lows owners keys slots counts places mail =
      memory lows owners keys slots m.lens m.values m.name_lens m.names counts places mail

  module _ (lows owners keys slots counts places mail : List ℕ) (bounds entries : ℕ)
      (K : KeepsMap lows owners bounds (updated lo hi i C.f))
      (L : KeepsTable keys slots m.lens m.values entries (removed lo hi C.T)) where
    core_handed : KeepsPost counts places mail k.size k.peers
        (posted i (written (message (next h (C.N i)) (C.N i) (delegate lo hi (in_range lo hi h.records)))) C.P)
        → Core (over lows owners keys slots counts places mail) (moved k bounds entries)
        (sent (C.N i) (delegate lo hi (in_range lo hi h.records)) (done (giving lo hi (C.N i) h.owners) (outside lo hi h.records) (suc h.transfers) h))
    core_handed Q =
        let b = delegate lo hi (in_range lo hi h.records) in
        record {
          N = C.N;
          f = updated lo hi i C.f;
          T = removed lo hi C.T;
          P = posted i (written (message (next h (C.N i)) (C.N i) b)) C.P;
          sized = C.sized;
          names_kept = C.names_kept;
          map_kept = K;
          table_kept = L;
          post_kept = Q;
          says = says_done _ _ _ _ _ _ _ (sent (C.N i) b h) (says_posted _ _ _ _ _ _ _ h C.says C.names_kept.distinct i in_peers b)
              (updated lo hi i C.f)
              (removed lo hi C.T)
              (giving lo hi (C.N i) h.owners)
              (outside lo hi h.records)
              (suc h.transfers)
              (giving_in m k h C lo hi i host)
              (giving_is m k h C lo hi i host)
              (removed_is C.T h.records C.says.record_is C.says.sorted lo hi)
              (above_kept _ 0 h.records C.says.sorted);
          transfers_is = ap suc C.transfers_is;
          turns_is = C.turns_is;
        }

    -- the range is handed over, and its Delegate, which waits in place p, is handed out
    pub handed : (x : ℕ) → x ≡ suc (last C.P i) → x < numbers → (es : List Entry) → es ≡ in_range lo hi h.records → (p : ℕ)
        → KeepsPost counts places mail k.size k.peers (posted i (written (message x (C.N i) (delegate lo hi es))) C.P)
        → Standing places mail k.size p i x (written (message x (C.N i) (delegate lo hi es)))
        → Does (over lows owners keys slots counts places mail) (moved k bounds entries) (Handed p) (handing (numbered h (C.N i)) h lo hi (C.N i))
    handed x xe small es ee p Q S =
        let n : x ≡ next h (C.N i) = number_is x xe in
        let t : numbered h (C.N i) ≡ true = lt-ltb (next h (C.N i)) numbers (subst (λ (y : ℕ). y < numbers) n small) in
        let w : written (message x (C.N i) (delegate lo hi es)) ≡ written (message (next h (C.N i)) (C.N i) (delegate lo hi (in_range lo hi h.records))) =
        ap₂ (λ (y : ℕ) (l : List Entry). written (message y (C.N i) (delegate lo hi l))) n ee in
        let g : mark_at places p - 1 ≡ i = omega (arith, S.mark) in
        let to : name_at m.name_lens m.names k.width (mark_at places p - 1) ≡ C.N i =
        ap (name_at m.name_lens m.names k.width) g ∙ name_is m k h C i in_peers in
        let D : Does (over lows owners keys slots counts places mail) (moved k bounds entries) (Handed p) (handing true h lo hi (C.N i)) = record {
          core = core_handed (subst (λ (s : List ℕ). KeepsPost counts places mail k.size k.peers (posted i s C.P)) w Q);
          outcome = refl;
          sends = ap₂ (λ (u : Address) (v : List ℕ). record { to = u; bytes = v } ∷ []) to (S.is ∙ w);
        } in
        subst
        (λ (y : Bool). Does (over lows owners keys slots counts places mail) (moved k bounds entries) (Handed p) (handing y h lo hi (C.N i)))
        (sym t)
        D

  -- no number is left: only the count is raised
  pub unhanded : numbers ≤ suc (last C.P i) → Does m (moved k k.bounds k.entries) Unnumbered (handing (numbered h (C.N i)) h lo hi (C.N i))
  unhanded full =
      let n : suc (last C.P i) ≡ next h (C.N i) = number_is (suc (last C.P i)) refl in
      let t : numbered h (C.N i) ≡ false = le-ltb (next h (C.N i)) numbers (subst (λ (y : ℕ). numbers ≤ y) n full) in
      subst (λ (y : Bool). Does m (moved k k.bounds k.entries) Unnumbered (handing y h lo hi (C.N i))) (sym t)
      (record {
        core = record {
          N = C.N;
          f = C.f;
          T = C.T;
          P = C.P;
          sized = C.sized;
          names_kept = C.names_kept;
          map_kept = C.map_kept;
          table_kept = C.table_kept;
          post_kept = C.post_kept;
          says = says_done _ _ _ _ _ _ _ h C.says C.f C.T h.owners h.records (suc h.transfers) C.says.owner_in
              C.says.owner_is
              C.says.record_is
              C.says.sorted;
          transfers_is = ap suc C.transfers_is;
          turns_is = C.turns_is;
        };
        outcome = refl;
        sends = refl;
      })
