-- Laws of a list of entries that is stored one after the other: what is stored stays, and how many entries there are then.
-- Assumes nothing.
use mathlib.Core.Path.{◌≡◌, refl, ap, ◌∙◌}
use mathlib.Core.Logic.{◌⊎◌, inl, inr, ⊎_elim}
use mathlib.Core.Option.{none, some}
use Prim.Native.Nat.{ℕ, zero, suc, ◌≤◌, ◌<◌}
use native.Mathlib.Omega.{arith}
use Rattle.columns.proofs.Cases.{lt_or_ge, eq_or_ne}
use Rattle.records.specs.Table.{Value, Table, put, storing, Size}
use Rattle.records.proofs.Tables.{put_same, put_other, size_new, size_le}

-- a key that none of the entries has is as it was
pub storing_other : (m : ℕ) (key : ℕ → ℕ) (val : ℕ → Value) (T : Table) (k : ℕ) → ((i : ℕ) → i < m → k ≡ key i → ⊥) → storing m key val T k ≡ T k
storing_other zero key val T k h = refl
storing_other (suc m) key val T k h =
    put_other (key m) (some (val m)) (storing m key val T) k (h m (omega arith)) ∙ storing_other m key val T k (λ i q. h i (omega arith))

-- of rising keys, each is stored to stay
pub storing_at : (m : ℕ) (key : ℕ → ℕ) (val : ℕ → Value) (T : Table) → ((i j : ℕ) → i < j → j < m → key i < key j) → (i : ℕ) → i < m
    → storing m key val T (key i) ≡ some (val i)
storing_at zero key val T r i q = absurd (omega arith)
storing_at (suc m) key val T r i q =
    ⊎_elim
    (λ w. put_other (key m) (some (val m)) (storing m key val T) (key i) (λ e. omega (arith, r i m w (omega arith)))
    ∙ storing_at m key val T (λ a b p s. r a b p (omega arith)) i w)
    (λ w. let e : i ≡ m = omega arith in rw e (put_same (key m) (some (val m)) (storing m key val T)))
    (lt_or_ge i m)

-- the next of rising keys is as it was before any was stored
pub storing_next : (t : ℕ) (key : ℕ → ℕ) (val : ℕ → Value) (T : Table) → ((i : ℕ) → i < t → key i < key t) → storing t key val T (key t) ≡ T (key t)
storing_next t key val T r = storing_other t key val T (key t) (λ i q e. omega (arith, r i q))

-- what has an entry after t of m has one after all
pub storing_keeps : (t m : ℕ) (key : ℕ → ℕ) (val : ℕ → Value) (T : Table) → t ≤ m → (k : ℕ) (v : Value) → storing t key val T k ≡ some v
    → (w : Value) × (storing m key val T k ≡ some w)
storing_keeps t zero key val T h k v e = (v, (let z : t ≡ zero = omega arith in rw z at e))
storing_keeps t (suc m) key val T h k v e =
    ⊎_elim
    (λ w. go (storing_keeps t m key val T (omega arith) k v e) (eq_or_ne k (key m)))
    (λ w. let z : t ≡ suc m = omega arith in (v, rw z at e))
    (lt_or_ge t (suc m))
  where
    go : (w : Value) × (storing m key val T k ≡ some w) → (k ≡ key m) ⊎ (k ≡ key m → ⊥) → (w : Value) × (storing (suc m) key val T k ≡ some w)
    go u (inl s) = (val m, ap (put (key m) (some (val m)) (storing m key val T)) s ∙ put_same (key m) (some (val m)) (storing m key val T))
    go u (inr s) = (u.0, put_other (key m) (some (val m)) (storing m key val T) k s ∙ u.1)

-- if all m entries find a place, the next one does: a new key at a full table would be one too many
pub room_for : (t m : ℕ) (key : ℕ → ℕ) (val : ℕ → Value) (T : Table) → t < m → (n s : ℕ) → Size (storing t key val T) n → Size (storing m key val T) s
    → (cap : ℕ) → n ≤ cap → s ≤ cap → storing t key val T (key t) ≡ none → n < cap
room_for t m key val T h n s a b cap l u e =
    let one : Size (storing (suc t) key val T) (suc n) = size_new n (storing t key val T) (key t) (val t) a e in
    let le : suc n ≤ s = size_le (suc n) s (storing (suc t) key val T) (storing m key val T) one b (storing_keeps (suc t) m key val T h) in
    omega arith
