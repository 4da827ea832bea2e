-- The room test of a Shard, one law for each answer: what the functions that were called have said makes what is to be shown.
-- Assumes nothing.
use mathlib.Core.Path.{◌≡◌, sym, ◌∙◌, subst}
use mathlib.Core.Bool.{Bool, true, false, true≢false, false≢true}
use mathlib.Core.List.{List}
use Prim.Native.Nat.{ℕ, ◌<◌}
use native.Mathlib.Omega.{arith}
use Rattle.keys.specs.declared.Bound.{Bound}
use Rattle.format.specs.declared.Part.{Part}
use Rattle.message.specs.Message.{Address}
use Rattle.message.specs.View.{bytes_of, PartIn}
use Rattle.delegation.specs.Map.{room}
use Rattle.std.specs.Prelude.{Some, None}
use Rattle.protocol.specs.Owners.{giving}
use Rattle.protocol.specs.State.{Host}
use Rattle.protocol.specs.Process.{refused}
use Rattle.hosts.specs.declared.State.{State}
use Rattle.hosts.specs.Memory.{memory}
use Rattle.hosts.specs.Limits.{Bounded}
use Rattle.hosts.specs.Keeps.{Core}
use Rattle.hosts.proofs.Totals.{free_place, all_taken}
use Rattle.hosts.proofs.Maps.{left_bounded, bounded_left}
use Rattle.shards.specs.Answers.{Fits, AfterRecipient, Movable}
use Rattle.rooms.specs.Inner.{Vacant, ShardTested}
use Rattle.rooms.proofs.Refused.{refused_recipient, refused_range, not_refused}

module _ {lows owners keys name_lens names places : List ℕ} {k : State} {s : List ℕ} {lo hi : Bound} {to : Part} where
  -- what was said of an answer holds of one that is equal to it
  pub shard_as : {r q : Bool} → q ≡ r → ShardTested lows owners keys name_lens names places k s lo hi to r
      → ShardTested lows owners keys name_lens names places k s lo hi to q
  shard_as e A = subst (λ (x : Bool). ShardTested lows owners keys name_lens names places k s lo hi to x) (sym e) A

  -- one that is refused needs nothing
  needless : ((slots lens values counts mail : List ℕ) (h : Host)
      → Core (memory lows owners keys slots lens values name_lens names counts places mail) k h → PartIn s to
      → refused h lo hi (bytes_of s to) ≡ true)
      → ShardTested lows owners keys name_lens names places k s lo hi to true
  needless R = record {
    is = λ slots a. record {
      roomy = λ e lens values counts mail room h l C f b z. absurd (true≢false (sym (R slots lens values counts mail h C b) ∙ z));
      lacks = λ e. absurd (true≢false e);
    };
  }

  pub shard_nobody : AfterRecipient name_lens names k s to None → ShardTested lows owners keys name_lens names places k s lo hi to true
  shard_nobody A =
      needless
      (λ slots lens values counts mail h C b.
      refused_recipient h lo hi (bytes_of s to) (memory lows owners keys slots lens values name_lens names counts places mail) k C
      (A.is k.peers C.N C.names_kept C.says.few b))

  module _ {t : Bool} (M : Movable lows owners keys k lo hi t) where
    pub shard_stays : t ≡ false → ShardTested lows owners keys name_lens names places k s lo hi to true
    shard_stays e =
        needless
        (λ slots lens values counts mail h C b.
        refused_range h lo hi (bytes_of s to) (sym (M.is slots lens values name_lens names counts places mail h C) ∙ e))

    module _ (go : t ≡ true) {i : ℕ} (A : AfterRecipient name_lens names k s to (Some i)) where
      module _ (slots lens values counts mail : List ℕ) (h : Host)
          (C : Core (memory lows owners keys slots lens values name_lens names counts places mail) k h) where
        to_is : (i < k.hosts) × (C.N i ≡ bytes_of s to) × (i ≡ k.me → ⊥)
        to_is = A.is k.peers C.N C.names_kept C.says.few

        moves : refused h lo hi (bytes_of s to) ≡ false
        moves =
            not_refused h lo hi (bytes_of s to) (memory lows owners keys slots lens values name_lens names counts places mail) k C i to_is.0 to_is.1 to_is.2
            (sym (M.is slots lens values name_lens names counts places mail h C) ∙ go)

        abbrev Enough : Type 0
        Enough = Bounded (room lows owners) h (giving lo hi (bytes_of s to) h.owners)

        has_bounds : {w : Bool} → Fits lows owners k.bounds lo hi i w → w ≡ true → Enough
        has_bounds F y =
            subst (λ (x : Address). Bounded (room lows owners) h (giving lo hi x h.owners)) to_is.1
            (left_bounded (memory lows owners keys slots lens values name_lens names counts places mail) k h C lo hi i to_is.0 F.after (room lows owners) F.left (F.yes y))

        lacks_bounds : {w : Bool} → Fits lows owners k.bounds lo hi i w → w ≡ false → Enough → ⊥
        lacks_bounds F n B =
            let b =
            bounded_left (memory lows owners keys slots lens values name_lens names counts places mail) k h C lo hi i to_is.0 F.after (room lows owners) F.left
            (subst (λ (x : Address). Bounded (room lows owners) h (giving lo hi x h.owners)) (sym to_is.1) B) in
            omega (arith, b, F.no n)

      -- one that is carried out needs a place
      pub shard_full : {v : Bool} → Vacant places v → v ≡ false → ShardTested lows owners keys name_lens names places k s lo hi to false
      shard_full P n = record {
        is = λ slots a. record {
          roomy = λ z. absurd (false≢true z);
          lacks = λ z lens values counts mail room h l C f b N.
              all_taken (memory lows owners keys slots lens values name_lens names counts places mail) k h C (P.no n)
              (N (moves slots lens values counts mail h C)).0;
        };
      }

      -- .. and room in the map
      pub shard_bounds : {v w : Bool} → Vacant places v → v ≡ true → Fits lows owners k.bounds lo hi i w
          → ShardTested lows owners keys name_lens names places k s lo hi to w
      shard_bounds P y F = record {
        is = λ slots a. record {
          roomy = λ z lens values counts mail room h l C f b m.
              let p = P.yes y in (
                free_place (memory lows owners keys slots lens values name_lens names counts places mail) k h C p.0 p.1.within p.1.free,
                has_bounds slots lens values counts mail h C F z,
              );
          lacks = λ z lens values counts mail room h l C f b N.
              lacks_bounds slots lens values counts mail h C F z (N (moves slots lens values counts mail h C)).1;
        };
      }
