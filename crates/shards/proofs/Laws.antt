-- Who gets the range, and whether it can be moved: one law for each answer of the code.
-- Assumes nothing.
use mathlib.Core.Path.{◌≡◌, refl, sym, ap, ◌∙◌}
use mathlib.Core.Bool.{Bool, true, false}
use mathlib.Core.List.{List}
use Prim.Native.Nat.{ℕ, ◌≤◌, ◌+◌, ◌-◌}
use native.Mathlib.Nat.{mul-le-mul_right}
use native.Mathlib.Omega.{arith}
use lib.ListN.{length}
use lib.Dec.{ltb}
use Rattle.limits.specs.Limits.{entries_limit}
use Rattle.keys.specs.declared.Bound.{Bound}
use Rattle.keys.specs.Bound.{below}
use Rattle.message.specs.Message.{Address}
use Rattle.counts.specs.Answers.{Counted}
use Rattle.delegation.specs.Map.{Whole}
use Rattle.peers.specs.Names.{Keeps as KeepsNames, AfterFind}
use Rattle.protocol.specs.Records.{in_range}
use Rattle.protocol.specs.Owners.{whole}
use Rattle.protocol.specs.State.{Host}
use Rattle.protocol.proofs.Whole.{whole_all, all_whole}
use Rattle.hosts.specs.declared.State.{State}
use Rattle.hosts.specs.Memory.{Memory, memory}
use Rattle.hosts.specs.Keeps.{Core}
use Rattle.hosts.proofs.Tables.{size_within}
use Rattle.memory.specs.Bytes.{part}
use Rattle.memory.proofs.Parts.{part_taken}
use Rattle.format.specs.declared.Part.{Part}
use Rattle.std.specs.Prelude.{Some, None}
use Rattle.shards.specs.Answers.{AfterRecipient, Movable}

-- fewer addresses are kept too
pub keeps_fewer : {lens names : List ℕ} {w n hosts : ℕ} {N : ℕ → Address} → KeepsNames lens names w n N → hosts ≤ n → KeepsNames lens names w hosts N
keeps_fewer {w = w} {n = n} {hosts = hosts} K q = record {
  wide = K.wide;
  fits_lens = omega (arith, K.fits_lens, q);
  fits_names = omega (arith, K.fits_names, mul-le-mul_right {m = hosts} {n = n} w q);
  short = λ i h. K.short i (omega arith);
  is = λ i h. K.is i (omega arith);
  distinct = λ i j p r e. K.distinct i j (omega arith) (omega arith) e;
}

-- ---- the recipient

module _ {lens names : List ℕ} {k : State} {s : List ℕ} {to : Part} where
  pub nobody : AfterFind lens names k.width k.hosts (part s to.at (to.at + to.len - to.at)) None → AfterRecipient lens names k s to None
  nobody A = record {
    is = λ n N K q inside i p z. absurd (A.is N (keeps_fewer K q) i p (z ∙ sym (part_taken s to.at to.len)));
  }

  module _ {i : ℕ} (A : AfterFind lens names k.width k.hosts (part s to.at (to.at + to.len - to.at)) (Some i)) where
    pub myself : i ≡ k.me → AfterRecipient lens names k s to None
    myself me = record {
      is = λ n N K q inside j p z.
          let w = A.is N (keeps_fewer K q) in
          (keeps_fewer K q).distinct j i p w.0 (z ∙ sym (part_taken s to.at to.len) ∙ sym w.1) ∙ me;
    }

    pub another : (i ≡ k.me → ⊥) → AfterRecipient lens names k s to (Some i)
    another me = record {
      is = λ n N K q. let w = A.is N (keeps_fewer K q) in (w.0, w.1 ∙ part_taken s to.at to.len, me);
    }

-- ---- the range

module _ (m : Memory) (k : State) (h : Host) (C : Core m k h) (lo hi : Bound) where
  -- it is all the host's own by numbers exactly if it is by addresses
  whole_is : (r : Bool) → Whole m.lows m.owners k.bounds lo hi k.me r → whole lo hi h.me h.owners ≡ r
  whole_is true W =
      all_whole lo hi h.me h.owners
      (λ x q. sym (C.says.owner_is x) ∙ ap C.N (W.all C.f C.map_kept refl x q) ∙ C.says.me_is)
  whole_is false W = go (whole lo hi h.me h.owners) refl
    where
      go : (t : Bool) → whole lo hi h.me h.owners ≡ t → t ≡ false
      go true e =
          let w = W.other C.f C.map_kept refl in
          absurd
          (w.3
          (C.names_kept.distinct (C.f w.0) k.me (omega (arith, C.says.owner_in w.0, C.says.few)) (omega (arith, C.says.own, C.says.few))
          (C.says.owner_is w.0 ∙ whole_all lo hi h.me h.owners e w.0 w.2 ∙ sym C.says.me_is)))
      go false e = refl

  entries_are : (n : ℕ) → Counted m.keys k.entries lo hi n → n ≡ length (in_range lo hi h.records)
  entries_are n A =
      size_within C.T h.records C.says.record_is C.says.sorted lo hi n (A.is m.slots m.lens m.values C.T C.table_kept)

module _ {lows owners keys : List ℕ} {k : State} {lo hi : Bound} where
  pub movable_empty : below lo hi ≡ false → Movable lows owners keys k lo hi false
  movable_empty e = record { is = λ slots lens values name_lens names counts places mail h C. rw e refl }

  module _ (b : below lo hi ≡ true) {w : Bool} (W : Whole lows owners k.bounds lo hi k.me w) where
    pub movable_other : w ≡ false → Movable lows owners keys k lo hi false
    movable_other f = record {
      is = λ slots lens values name_lens names counts places mail h C.
          let e = whole_is (memory lows owners keys slots lens values name_lens names counts places mail) k h C lo hi w W ∙ f in
          rw (b, e) refl;
    }

    pub movable_counted : w ≡ true → {n : ℕ} → Counted keys k.entries lo hi n → Movable lows owners keys k lo hi (ltb n entries_limit)
    movable_counted t {n} A = record {
      is = λ slots lens values name_lens names counts places mail h C.
          let m = memory lows owners keys slots lens values name_lens names counts places mail in
          let e = whole_is m k h C lo hi w W ∙ t in
          rw (b, e) (ap (λ (x : ℕ). ltb x entries_limit) (entries_are m k h C lo hi n A));
    }
