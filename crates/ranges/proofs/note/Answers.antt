-- `ranges::note` meets its contract. Each row that is written adds one, and a key that stands in the table has a value.
-- Assumes nothing.
use mathlib.Core.Path.{◌≡◌, sym, ◌∙◌}
use mathlib.Core.List.{List}
use mathlib.Core.Option.{none-ne-some}
use Prim.Native.Nat.{ℕ, ◌+◌, ◌<◌}
use native.Mathlib.Omega.{arith}
use borrow.Author.Count.{below_more}
use lib.ListN.{length, get_or, set}
use lib.Seq.{get_or-set_same, get_or-set_other}
use Rattle.std.specs.Prelude.{Option, Some, None}
use Rattle.std.specs.Option.{unwrap_or}
use Rattle.records.specs.Answers.{GetCases}
use Rattle.ranges.proofs.note.Goals as goal
use Rattle.ranges.proofs.note.Invariants.{Stands}

-- a store into each of two columns adds a row to those that the relation holds of
add_row : (R : ℕ → ℕ → ℕ → Type 0) (ats ls : List ℕ) (y at len : ℕ) → y < length ats → y < length ls
    → ((k : ℕ) → k < y → R k (get_or ats k 0) (get_or ls k 0)) → R y at len → (k : ℕ) → k < y + 1 → R k (get_or (set ats y at) k 0) (get_or (set ls y len) k 0)
add_row R ats ls y at len p q h r =
    below_more (λ k. R k (get_or (set ats y at) k 0) (get_or (set ls y len) k 0)) y
    (λ k u. let n : k ≡ y → ⊥ = omega arith in rw (get_or-set_other ats y k at 0 n, get_or-set_other ls y k len 0 n) (h k u))
    (rw (get_or-set_same ats y at 0 p, get_or-set_same ls y len 0 q) r)

-- what is written of the key at place p
written : (keys slots lens values : List ℕ) (n p : ℕ) (r : Option (ℕ × ℕ)) → p < n → GetCases r keys slots lens values n (get_or keys p 0)
    → Stands keys slots lens values n p (unwrap_or r (0, 0)).0 (unwrap_or r (0, 0)).1
written keys slots lens values n p (Some (at, len)) q g = g
written keys slots lens values n p None q g = (omega arith, λ T K. absurd (none-ne-some _ (sym (g T K) ∙ K.listed.has p q)))

pub loop-y-preserved : goal.loop-y-preserved
loop-y-preserved c =
    let l = c.loop-y in
    let a = c.args in
    let v = get_or a.keys.now (a.i + l.y) 0 in
    let hk : l.y < length l.to_keys = omega arith in (
      below_more _ l.y
          (λ k p. let d : k ≡ l.y → ⊥ = omega arith in get_or-set_other l.to_keys l.y k v 0 d ∙ l.invariant.0 k p)
          (get_or-set_same l.to_keys l.y v 0 hk),
      add_row (λ k. Stands a.keys.now a.slots.now a.lens.now a.values.now a.n (a.i + k)) l.to_ats l.to_lens l.y _ _ (omega arith) (omega arith) l.invariant.1
          (rw c.unwrap_or-at.ensures (written a.keys.now a.slots.now a.lens.now a.values.now a.n (a.i + l.y) c.get.result (omega arith) c.get.ensures.is)),
    )
