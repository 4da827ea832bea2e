-- Every entry of a host's records is one that a table keeps, whatever is done with them; so a transfer of them may be written and cannot be refused.
-- Assumes nothing.
use mathlib.Core.Path.{◌≡◌, refl, sym, ap, ◌∙◌, subst}
use mathlib.Core.Bool.{Bool, true, false, cond, not, ◌||◌, false≢true}
use mathlib.Core.List.{List, [], ◌∷◌}
use mathlib.Core.Option.{Option, none, some, some-injective, none-ne-some}
use Prim.Native.Nat.{ℕ, ◌≤◌, ◌<◌}
use native.Mathlib.Omega.{arith}
use lib.ListN.{length}
use lib.Dec.{eqb, ltb, leb}
use borrow.Author.Tests.{ltb-false, le-ltb, leb-false}
use Rattle.limits.specs.Limits.{value_max, entries_limit}
use Rattle.keys.specs.declared.Bound.{Bound}
use Rattle.keys.specs.Bound.{below, holds}
use Rattle.format.specs.Format.{Entry, Small, Above, Good, maybe, number}
use Rattle.message.specs.Message.{Body, delegate}
use Rattle.message.specs.Table.{body, body_value, key_of}
use Rattle.message.proofs.Laws.{Short, few_fit}
use Rattle.protocol.specs.Records.{Value, look, kept, without, filed, setting, in_range, outside, storing, replacing}
use Rattle.protocol.specs.Process.{any_long}
use Rattle.protocol.proofs.Entries.{above_kept, look_in_range}
use Rattle.world.proofs.Lists.{All}
use Rattle.world.proofs.Links.{Fair}
use Rattle.world.proofs.Invariant.{Kept}

-- ---- the changes

module _ (P : Entry → Type 0) where
  pub all_kept : (p : ℕ → Bool) (l : List Entry) → All P l → All P (kept p l)
  all_kept p [] A = tt
  all_kept p (e ∷ l) A = go (p e.key) (all_kept p l A.1)
    where
      go : (t : Bool) → All P (kept p l) → All P (cond t (e ∷ kept p l) (kept p l))
      go true r = (A.0, r)
      go false r = r

  all_filed : (x : Entry) (l : List Entry) → P x → All P l → All P (filed x l)
  all_filed x [] p A = (p, tt)
  all_filed x (e ∷ l) p A = go (ltb x.key e.key) (all_filed x l p A.1)
    where
      go : (t : Bool) → All P (filed x l) → All P (cond t (x ∷ e ∷ l) (e ∷ filed x l))
      go true r = (p, A)
      go false r = (A.0, r)

  pub all_setting : (k : ℕ) (v : Option Value) (l : List Entry) → ((w : Value) → v ≡ some w → P (record { key = k; value = w })) → All P l
      → All P (setting k v l)
  all_setting k none l p A = all_kept (λ j. not (eqb j k)) l A
  all_setting k (some v) l p A = all_filed (record { key = k; value = v }) (without k l) (p v refl) (all_kept (λ j. not (eqb j k)) l A)

  all_storing : (es l : List Entry) → All P es → All P l → All P (storing es l)
  all_storing [] l B A = A
  all_storing (e ∷ es) l B A =
      all_storing es (setting e.key (some e.value) l) B.1
      (all_setting e.key (some e.value) l (λ w q. subst (λ (v : Value). P (record { key = e.key; value = v })) (some-injective e.value w q) B.0) A)

  pub all_replacing : (lo hi : Bound) (es l : List Entry) → All P es → All P l → All P (replacing lo hi es l)
  all_replacing lo hi es l B A = all_storing es (outside lo hi l) B (all_kept (λ j. not (holds lo hi j)) l A)

-- ---- what follows

-- a value that a key holds is short
pub look_short : (k : ℕ) (l : List Entry) → All Kept l → (v : Value) → look k l ≡ some v → length v ≤ value_max
look_short k [] A v e = absurd (none-ne-some v e)
look_short k (d ∷ l) A v e = go (eqb k d.key) e (look_short k l A.1 v)
  where
    go : (t : Bool) → cond t (some d.value) (look k l) ≡ some v → (look k l ≡ some v → length v ≤ value_max) → length v ≤ value_max
    go true q r = let u : length d.value ≡ length v = ap length (some-injective d.value v q) in omega (arith, u, A.0.1)
    go false q r = r q

kept_small : (l : List Entry) → All Kept l → Small l
kept_small [] A = tt
kept_small (e ∷ l) A = (A.0.0, omega (arith, A.0.1), kept_small l A.1)

kept_short : (l : List Entry) → All Kept l → Short l
kept_short [] A = tt
kept_short (e ∷ l) A = (A.0.1, kept_short l A.1)

kept_not_long : (l : List Entry) → All Kept l → any_long l ≡ false
kept_not_long [] A = refl
kept_not_long (e ∷ l) A = rw (le-ltb value_max (length e.value) A.0.1) (kept_not_long l A.1)

-- .. and conversely
pub short_kept : (l : List Entry) → Small l → any_long l ≡ false → All Kept l
short_kept [] s e = tt
short_kept (d ∷ l) s e = go (ltb value_max (length d.value)) refl e (short_kept l s.2)
  where
    go : (t : Bool) → ltb value_max (length d.value) ≡ t → t || any_long l ≡ false → (any_long l ≡ false → All Kept l) → All Kept (d ∷ l)
    go true q r f = absurd (false≢true (sym r))
    go false q r f = ((s.0, ltb-false value_max (length d.value) q), f r)

-- the entries of a range as a transfer
pub fair_range : (lo hi : Bound) (l : List Entry) → Above 0 l → All Kept l → below lo hi ≡ true → leb entries_limit (length (in_range lo hi l)) ≡ false
    → Good (maybe number) (key_of lo) → Good (maybe number) (key_of hi) → Fair (delegate lo hi (in_range lo hi l))
fair_range lo hi l sorted A range few g w =
    let B : All Kept (in_range lo hi l) = all_kept Kept (holds lo hi) l A in
    let f : length (in_range lo hi l) < entries_limit = leb-false entries_limit (length (in_range lo hi l)) few in record {
      lo = lo;
      hi = hi;
      entries = in_range lo hi l;
      is = refl;
      range = range;
      few = few;
      short = kept_not_long (in_range lo hi l) B;
      inside = λ k e. look_in_range lo hi k l ∙ rw e refl;
      good = (omega arith, ((g, w), (omega (arith, f), kept_small (in_range lo hi l) B, above_kept (holds lo hi) 0 l sorted, few_fit (in_range lo hi l) f (kept_short (in_range lo hi l) B))));
    }

-- the entries of a transfer are ones that a table keeps
pub fair_kept : (b : Body) (F : Fair b) → All Kept F.entries
fair_kept b F = short_kept F.entries F.good.1.1.1 F.short

-- and it may be written
pub fair_good : (b : Body) → Fair b → Good body (body_value b)
fair_good b F = subst (λ (z : Body). Good body (body_value z)) (sym F.is) F.good
