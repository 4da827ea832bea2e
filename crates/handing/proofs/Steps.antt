-- The steps of handing a range over, one law for each answer of the code: what the functions that were called have said makes what is to be shown.
-- Assumes nothing.
use mathlib.Core.Path.{◌≡◌, refl, sym, ap, ◌∙◌, subst}
use mathlib.Core.Bool.{Bool, true, false}
use mathlib.Core.List.{List}
use Prim.Native.Nat.{ℕ, suc, min, ◌-◌, ◌≤◌, ◌<◌}
use native.Mathlib.Omega.{arith}
use lib.ListN.{length, get_or}
use lib.Dec.{leb}
use borrow.Author.Tests.{ltb-true, le-leb, lt-leb}
use Rattle.limits.specs.Limits.{numbers, entries_limit, transfers_limit}
use Rattle.keys.specs.declared.Bound.{Bound}
use Rattle.format.specs.declared.Part.{Part}
use Rattle.message.specs.Message.{Address, delegate}
use Rattle.message.specs.View.{bytes_of}
use Rattle.delegating.specs.Columns.{entered, Columns}
use Rattle.delegating.proofs.Entered.{entered_length}
use Rattle.std.specs.Prelude.{Ok, Err, Some, None}
use Rattle.limits.specs.declared.NoRoom.{NoRoom}
use Rattle.ranges.specs.Answers.{AfterPick as AfterRange}
use Rattle.delegation.specs.Map.{room}
use Rattle.delegation.proofs.Laws.{keeps_cong, takes_unique}
use Rattle.picking.specs.declared.Refused.TheVariants.{NoNumber, NoPlace}
use Rattle.picking.specs.Answers.{AfterPick}
use Rattle.sending.specs.Answers.{AfterSend}
use Rattle.protocol.specs.Records.{in_range}
use Rattle.protocol.specs.Owners.{giving}
use Rattle.protocol.specs.State.{Host, Letter}
use Rattle.protocol.specs.Process.{refused, on_shard, handing}
use Rattle.protocol.specs.Delivery.{numbered}
use Rattle.hosts.specs.declared.State.{State}
use Rattle.hosts.specs.declared.Done.{Done}
use Rattle.hosts.specs.declared.Processed.TheVariants.{Dropped, Unnumbered}
use Rattle.hosts.specs.Memory.{memory}
use Rattle.hosts.specs.Limits.{Bounded}
use Rattle.hosts.specs.Keeps.{Core}
use Rattle.hosts.specs.Answers.{emptied, moved, dropped_of, Does}
use Rattle.hosts.proofs.Totals.{all_taken}
use Rattle.hosts.proofs.Maps.{index_giving}
use Rattle.hosts.proofs.Tables.{size_within}
use Rattle.hosts.proofs.Core.{does_dropped}
use Rattle.handing.specs.Answers.{Handable, AfterShard}
use Rattle.shards.specs.Answers.{AfterRecipient, Mine}
use Rattle.giving.specs.Answers.{AfterGive}
use Rattle.handing.specs.Inner.{AfterOffer, AfterHand}
use Rattle.handing.proofs.Refused.{refused_recipient, refused_range, refused_many}
use Rattle.handing.proofs.Handed.{entered_range, delegate_valid, delegate_short, handed, unhanded}

-- ---- the range handed over

-- the count of transfers can be raised
can_raise : (k : State) (x : ℕ) → k.transfers ≡ x → x < transfers_limit - 2 → suc k.transfers < numbers
can_raise k x e q = omega (arith, e, q)

module _ {lows owners keys slots values name_lens names counts places mail : List ℕ} {k : State} {lo hi : Bound} {i : ℕ} {ks ats ls : List ℕ} {m : ℕ} where
  -- no place is free: that is never so
  pub no_place : {d : Done} → AfterPick counts places i (Err NoPlace) → d ≡ dropped_of k
      → AfterHand lows owners keys slots values name_lens names counts places mail k lo hi i ks ats ls m d lows owners keys slots counts places mail
  no_place B z =
      record { freed = ap (λ (x : Done). x.state.len) z; is = λ lens h C R. absurd (all_taken _ k h C B.is.0 R.place) }

  pub no_number : {t : State} → AfterPick counts places i (Err NoNumber) → t.len ≡ 0 → (suc k.transfers < numbers → t ≡ moved k k.bounds k.entries)
      → AfterHand lows owners keys slots values name_lens names counts places mail k lo hi i ks ats ls m (record { state = t; outcome = Unnumbered })
      lows owners keys slots counts places mail
  no_number B z M =
      record {
        freed = z;
        is = λ lens h C R.
            let q = B.is mail k.size k.peers C.P C.post_kept (omega (arith, R.host, C.says.few)) in
            subst (λ (x : State). Does (memory lows owners keys slots lens values name_lens names counts places mail) x Unnumbered (handing (numbered h (C.N i)) h lo hi (C.N i)))
            (sym (M (can_raise k h.transfers C.transfers_is R.few)))
            (unhanded _ k h C lo hi i R.host q);
      }

  module _ {p x : ℕ} (B : AfterPick counts places i (Ok (p, x))) (small : x < numbers) (known : (j : ℕ) → get_or ks j 0 < numbers) {t : Bool} {counts' places' mail' : List ℕ}
      (S : AfterSend name_lens names k.width counts places mail k.size i p x (λ n. Columns ks ats ls values m)
      (λ N. delegate lo hi (entered ks ats ls values 0 m)) t counts' places' mail') where
    -- the Delegate is not written: that is never so
    pub not_sent : {d : Done} → t ≡ false → d ≡ dropped_of k
        → AfterHand lows owners keys slots values name_lens names counts places mail k lo hi i ks ats ls m d lows owners keys slots counts' places' mail'
    not_sent u z =
        record {
          freed = ap (λ (x : Done). x.state.len) z;
          is = λ lens h C R.
              let q : i < k.peers = omega (arith, R.host, C.says.few) in
              absurd ((S.unsent u).3 k.peers C.N C.P
              (record {
                names_kept = C.names_kept;
                post_kept = C.post_kept;
                peer_in = q;
                place_open = B.is.0;
                number_is = B.is.1 mail k.size k.peers C.P C.post_kept q;
                asked = R.columns;
              })
              (delegate_valid _ k h C lo hi i R.host ks ats ls values m R.list R.count x small R.low R.high known)
              (delegate_short _ k h C lo hi i R.host ks ats ls values m R.list R.count x small));
        }

    pub sent : {d : Done} {lows' owners' keys' slots' : List ℕ} → t ≡ true → AfterGive lows owners keys slots k lo hi i p d lows' owners' keys' slots'
        → AfterHand lows owners keys slots values name_lens names counts places mail k lo hi i ks ats ls m d lows' owners' keys' slots' counts' places' mail'
    sent {d} {lows'} {owners'} {keys'} {slots'} u G =
        record {
          freed = G.freed;
          is = λ lens h C R.
              let q : i < k.peers = omega (arith, R.host, C.says.few) in
              let n = B.is.1 mail k.size k.peers C.P C.post_kept q in
              let w = S.sent u k.peers C.N C.P
              (record {
                names_kept = C.names_kept;
                post_kept = C.post_kept;
                peer_in = q;
                place_open = B.is.0;
                number_is = n;
                asked = R.columns;
              }) in
              let g = G.is lens values C.f C.T C.map_kept C.table_kept (can_raise k h.transfers C.transfers_is R.few)
              (λ b y.
              let v = R.bounds.1 in
              omega (arith, takes_unique y (v.0, v.1, keeps_cong (λ x. sym (index_giving _ k h C lo hi i R.host x)) v.2), R.bounds.2)) in
              subst
              (λ (x : Done). Does (memory lows' owners' keys' slots' lens values name_lens names counts' places' mail') x.state x.outcome (handing (numbered h (C.N i)) h lo hi (C.N i)))
              (sym g.answer)
              (handed _ k h C lo hi i R.host lows' owners' keys' slots' counts' places' mail' g.bounds g.entries g.map_kept g.table_kept x n small
              (entered ks ats ls values 0 m)
              R.list
              p
              w.0
              w.1);
        }

-- ---- the range's entries picked out

module _ {lows owners keys slots lens values name_lens names counts places mail : List ℕ} {k : State} {lo hi : Bound} {i : ℕ}
    {ks ats ls ks' ats' ls' : List ℕ} where
  -- they are too many
  pub too_many : {e : NoRoom} {d : Done} → AfterRange keys slots lens values k.entries lo hi ks ats ls (Err e) ks' ats' ls' → entries_limit ≤ suc (min (length ks) (min (length ats) (length ls))) → d ≡ dropped_of k
      → AfterOffer lows owners keys slots lens values name_lens names counts places mail k lo hi i d lows owners keys slots counts places mail
  too_many B q z =
      let M = memory lows owners keys slots lens values name_lens names counts places mail in
      record {
        freed = ap (λ (x : Done). x.state.len) z;
        is = λ h C O.
            let w = B.is.3 C.T C.table_kept in
            let n = size_within C.T h.records C.says.record_is C.says.sorted lo hi w.0 w.1 in
            let y : leb entries_limit (length (in_range lo hi h.records)) ≡ true = le-leb entries_limit (length (in_range lo hi h.records)) (omega (arith, q, w.2, n)) in
            subst (λ (x : Done). Does M x.state x.outcome (on_shard (leb entries_limit (length (in_range lo hi h.records))) h lo hi (C.N i))) (sym z)
            (subst (λ (x : Bool). Does M (emptied k) Dropped (on_shard x h lo hi (C.N i))) (sym y) (does_dropped M k h C Dropped refl));
      }

  pub offered : {m : ℕ} {d : Done} {lows' owners' keys' slots' counts' places' mail' : List ℕ}
      → AfterRange keys slots lens values k.entries lo hi ks ats ls (Ok m) ks' ats' ls' → suc (min (length ks) (min (length ats) (length ls))) ≤ entries_limit
      → length ks' ≡ length ks → length ats' ≡ length ats → length ls' ≡ length ls
      → AfterHand lows owners keys slots values name_lens names counts places mail k lo hi i ks' ats' ls' m d lows' owners' keys' slots' counts' places' mail'
      → AfterOffer lows owners keys slots lens values name_lens names counts places mail k lo hi i d lows' owners' keys' slots' counts' places' mail'
  offered {m} {d} {lows'} {owners'} {keys'} {slots'} {counts'} {places'} {mail'} B q l₀ l₁ l₂ H =
      let M = memory lows' owners' keys' slots' lens values name_lens names counts' places' mail' in
      record {
        freed = H.freed;
        is = λ h C O.
            let es = entered_range ks' ats' ls' values C.T h.records C.says.record_is C.says.sorted lo hi m (B.is.2 C.T C.table_kept) in
            let few : m < entries_limit = omega (arith, B.is.0, q) in
            let y : leb entries_limit (length (in_range lo hi h.records)) ≡ false =
            lt-leb entries_limit (length (in_range lo hi h.records)) (omega (arith, ap length es, entered_length ks' ats' ls' values 0 m, few)) in
            subst (λ (x : Bool). Does M d.state d.outcome (on_shard x h lo hi (C.N i))) (sym y)
            (H.is lens h C
            (record {
              few = O.few;
              host = O.host;
              low = O.low;
              high = O.high;
              count = few;
              columns = record {
                keys = omega (arith, B.is.0, l₀);
                values = record { fits_ats = omega (arith, B.is.0, l₁); fits_lens = omega (arith, B.is.0, l₂); within = B.is.1 };
              };
              list = es;
              place = O.place y;
              bounds = O.bounds y;
            }));
      }

-- ---- the row

module _ {lows owners keys slots lens values name_lens names counts places mail : List ℕ} {k : State} {s : List ℕ} {lo hi : Bound} {to : Part} where
  -- a Shard that is refused is dropped
  drop : {d : Done} → d ≡ dropped_of k
      → ((h : Host) → Core (memory lows owners keys slots lens values name_lens names counts places mail) k h → (l : Letter)
      → Handable lows owners places s lo hi to h l → refused h lo hi (bytes_of s to) ≡ true)
      → AfterShard lows owners keys slots lens values name_lens names counts places mail k s lo hi to d lows owners keys slots counts places mail
  drop {d} z why =
      let M = memory lows owners keys slots lens values name_lens names counts places mail in
      record {
        is = record {
          freed = ap (λ (x : Done). x.state.len) z;
          is = λ h l C H n.
              subst (λ (x : Done). Does M x.state x.outcome (on_shard (refused h lo hi (bytes_of s to)) h lo hi (bytes_of s to))) (sym z)
              (subst (λ (x : Bool). Does M (emptied k) Dropped (on_shard x h lo hi (bytes_of s to))) (sym (why h C l n)) (does_dropped M k h C Dropped refl));
        };
      }

  pub shard_nobody : {d : Done} → AfterRecipient name_lens names k s to None → d ≡ dropped_of k
      → AfterShard lows owners keys slots lens values name_lens names counts places mail k s lo hi to d lows owners keys slots counts places mail
  shard_nobody B z =
      drop z (λ h C l n. refused_recipient _ k h C lo hi (bytes_of s to) (B.is k.peers C.N C.names_kept C.says.few n.inside))

  module _ {t : Bool} (A : Mine lows owners k lo hi t) where
    pub shard_other : {d : Done} → t ≡ false → d ≡ dropped_of k
        → AfterShard lows owners keys slots lens values name_lens names counts places mail k s lo hi to d lows owners keys slots counts places mail
    shard_other e z = drop z (λ h C l n. refused_range _ k h C lo hi (bytes_of s to) (λ b. A.no e b C.f C.map_kept))

  -- the range is the host's own, and goes to another if its entries are few enough
  pub shard_offered : {i : ℕ} {t : Bool} {d : Done} {lows' owners' keys' slots' counts' places' mail' : List ℕ}
      → AfterRecipient name_lens names k s to (Some i) → Mine lows owners k lo hi t → t ≡ true
      → AfterOffer lows owners keys slots lens values name_lens names counts places mail k lo hi i d lows' owners' keys' slots' counts' places' mail'
      → AfterShard lows owners keys slots lens values name_lens names counts places mail k s lo hi to d lows' owners' keys' slots' counts' places' mail'
  shard_offered {i} {t} {d} {lows'} {owners'} {keys'} {slots'} {counts'} {places'} {mail'} B Q f O =
      let M = memory lows' owners' keys' slots' lens values name_lens names counts' places' mail' in
      record {
        is = record {
          freed = O.freed;
          is = λ h l C heard n.
              let w = B.is k.peers C.N C.names_kept C.says.few in
              let y = Q.yes f in
              let z = refused_many _ k h C lo hi (bytes_of s to) i w.0 w.1 w.2 y.0 (λ x v. y.3 C.f C.map_kept x v) in
              subst (λ (x : Bool). Does M d.state d.outcome (on_shard x h lo hi (bytes_of s to))) (sym z)
              (subst (λ (x : Address). Does M d.state d.outcome (on_shard (leb entries_limit (length (in_range lo hi h.records))) h lo hi x)) w.1
              (O.is h C
              (record {
                few = ltb-true _ _ n.few;
                host = w.0;
                low = y.1;
                high = y.2;
                place = λ v. n.place (z ∙ v);
                bounds = λ v. subst (λ (x : Address). Bounded (room lows owners) h (giving lo hi x h.owners)) (sym w.1) (n.bounds (z ∙ v));
              })));
        };
      }
