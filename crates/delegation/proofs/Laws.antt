-- The laws of the map. This is the one file of proofs that callers cite: they name `Keeps`, `Takes`, `updated` and these laws, never the fields of `Keeps`,
-- so that how the map is kept and searched can change under them.
-- Assumes nothing.
use mathlib.Core.Path.{◌≡◌, sym, ap, ◌∙◌}
use mathlib.Core.Logic.{⊎_elim}
use mathlib.Core.Bool.{Bool, true, false, cond}
use mathlib.Core.List.{List}
use Prim.Native.Nat.{ℕ, zero, suc, ◌-◌, ◌≤◌, ◌<◌}
use native.Mathlib.Omega.{arith}
use lib.ListN.{length, get_or}
use Rattle.keys.specs.declared.Bound.{Bound}
use Rattle.keys.specs.Bound.{below, holds}
use Rattle.keys.proofs.Laws.{holds_empty}
use Rattle.columns.proofs.Cases.{lt_or_ge}
use Rattle.std.specs.Prelude.{Ok, Err}
use Rattle.limits.specs.declared.NoRoom.{NoRoom}
use Rattle.delegation.specs.Map.{Keeps, Takes, updated, room, AfterSet, Left}

-- ---- the map after a change

pub updated_in : (lo hi : Bound) (v : ℕ) (f : ℕ → ℕ) (k : ℕ) → holds lo hi k ≡ true → updated lo hi v f k ≡ v
updated_in lo hi v f k e = ap (λ (t : Bool). cond t v (f k)) e

pub updated_out : (lo hi : Bound) (v : ℕ) (f : ℕ → ℕ) (k : ℕ) → holds lo hi k ≡ false → updated lo hi v f k ≡ f k
updated_out lo hi v f k e = ap (λ (t : Bool). cond t v (f k)) e

-- an empty range changes nothing
pub updated_empty : (lo hi : Bound) (v : ℕ) (f : ℕ → ℕ) (k : ℕ) → below lo hi ≡ false → updated lo hi v f k ≡ f k
updated_empty lo hi v f k e = updated_out lo hi v f k (holds_empty lo hi k e)

-- ---- what is kept

-- only the map's values matter
pub keeps_cong : {lows owners : List ℕ} {n : ℕ} {f g : ℕ → ℕ} → ((k : ℕ) → g k ≡ f k) → Keeps lows owners n f → Keeps lows owners n g
keeps_cong e k = record {
  some = k.some;
  fits_lows = k.fits_lows;
  fits_owners = k.fits_owners;
  zero = k.zero;
  rising = k.rising;
  joined = k.joined;
  means = λ i x a b c. e x ∙ k.means i x a b c;
}

-- only the first n places matter
pub keeps_places : {lows owners lows' owners' : List ℕ} {n : ℕ} {f : ℕ → ℕ} → n ≤ length lows' → n ≤ length owners'
    → ((x : ℕ) → x < n → get_or lows' x 0 ≡ get_or lows x 0) → ((x : ℕ) → x < n → get_or owners' x 0 ≡ get_or owners x 0)
    → Keeps lows owners n f → Keeps lows' owners' n f
keeps_places {lows} {owners} {lows'} {owners'} {n} {f} h l low own k = record {
  some = k.some;
  fits_lows = h;
  fits_owners = l;
  zero = low 0 k.some ∙ k.zero;
  rising = λ i j p q. omega (arith, low i (omega arith), low j q, k.rising i j p q);
  joined = λ i p e. k.joined i p (sym (own i (omega arith)) ∙ e ∙ own (suc i) p);
  means = λ i x p a b. k.means i x p (omega (arith, low i p)) (λ q. omega (arith, low (suc i) q, b q)) ∙ sym (own i p);
}

pub keeps_takes : {lows owners : List ℕ} {n : ℕ} {f : ℕ → ℕ} → Keeps lows owners n f → Takes f n
keeps_takes {lows} {owners} k = (lows, owners, k)

-- ---- a key's bound

-- the bound that has the key: the last one at or below it
keeps_place : {lows owners : List ℕ} {n : ℕ} {f : ℕ → ℕ} → Keeps lows owners n f → (k : ℕ)
    → (i : ℕ) × (i < n) × (get_or lows i 0 ≤ k) × (suc i < n → k < get_or lows (suc i) 0)
keeps_place {lows} {owners} {n} k key = go n k.some (omega arith)
  where
    go : (m : ℕ) → 0 < m → m ≤ n → (i : ℕ) × (i < m) × (get_or lows i 0 ≤ key) × (suc i < m → key < get_or lows (suc i) 0)
    go zero p q = absurd (omega arith)
    go (suc zero) p q = (0, omega arith, omega (arith, k.zero), λ r. absurd (omega arith))
    go (suc (suc m)) p q =
        ⊎_elim
        (λ w.
        let r = go (suc m) (omega arith) (omega arith) in
        (r.0, omega (arith, r.1), r.2, λ s. ⊎_elim r.3 (λ t. let e : suc r.0 ≡ suc m = omega (arith, r.1) in rw e w) (lt_or_ge (suc r.0) (suc m))))
        (λ w. (suc m, omega arith, w, λ r. absurd (omega arith)))
        (lt_or_ge key (get_or lows (suc m) 0))

-- two maps that one memory keeps are the same
pub keeps_same : {lows owners : List ℕ} {n : ℕ} {f g : ℕ → ℕ} → Keeps lows owners n f → Keeps lows owners n g → (k : ℕ) → f k ≡ g k
keeps_same a b k = let p = keeps_place a k in a.means p.0 k p.1 p.2 p.3 ∙ sym (b.means p.0 k p.1 p.2 p.3)

-- ---- how many bounds a map takes

-- where the bounds agree at x, the next one of the second cannot come before that of the first: the owner changes there
no_earlier : {lows owners lows' owners' : List ℕ} {n n' : ℕ} {f : ℕ → ℕ} → Keeps lows owners n f → Keeps lows' owners' n' f → (x : ℕ) → x < n
    → get_or lows x 0 ≡ get_or lows' x 0 → suc x < n' → (suc x < n → get_or lows' (suc x) 0 < get_or lows (suc x) 0) → ⊥
no_earlier {lows} {owners} {lows'} {owners'} a b x h e l u =
    let s : get_or lows' x 0 < get_or lows' (suc x) 0 = b.rising x (suc x) (omega arith) l in
    b.joined x l
    (sym (b.means x (get_or lows x 0) (omega arith) (omega arith) (λ q. omega arith))
    ∙ a.means x (get_or lows x 0) h (omega arith) (λ q. a.rising x (suc x) (omega arith) q)
    ∙ sym (a.means x (get_or lows' (suc x) 0) h (omega arith) u)
    ∙ b.means (suc x) (get_or lows' (suc x) 0) l (omega arith) (λ q. b.rising (suc x) (suc (suc x)) (omega arith) q))

-- two memories that keep one map have the same bounds
keeps_lows : {lows owners lows' owners' : List ℕ} {n n' : ℕ} {f : ℕ → ℕ} → Keeps lows owners n f → Keeps lows' owners' n' f → (x : ℕ) → x < n → x < n'
    → get_or lows x 0 ≡ get_or lows' x 0
keeps_lows a b zero p q = a.zero ∙ sym b.zero
keeps_lows {lows} {owners} {lows'} a b (suc x) p q =
    let e : get_or lows x 0 ≡ get_or lows' x 0 = keeps_lows a b x (omega arith) (omega arith) in
    ⊎_elim
    (λ w. absurd (no_earlier b a x (omega arith) (sym e) p (λ _. w)))
    (λ w. ⊎_elim (λ v. absurd (no_earlier a b x (omega arith) e q (λ _. v))) (λ v. omega arith) (lt_or_ge (get_or lows' (suc x) 0) (get_or lows (suc x) 0)))
    (lt_or_ge (get_or lows (suc x) 0) (get_or lows' (suc x) 0))

-- a map takes one number of bounds only
pub takes_unique : {f : ℕ → ℕ} {m m' : ℕ} → Takes f m → Takes f m' → m ≡ m'
takes_unique {f} {m} {m'} s t =
    ⊎_elim (λ w. absurd (less w s.2 t.2)) (λ w. ⊎_elim (λ v. absurd (less v t.2 s.2)) (λ v. omega arith) (lt_or_ge m' m)) (lt_or_ge m m')
  where
    less : {lows owners lows' owners' : List ℕ} {n n' : ℕ} → n < n' → Keeps lows owners n f → Keeps lows' owners' n' f → ⊥
    less {n = n} h a b =
        let p : 0 < n = a.some in
        no_earlier a b (n - 1) (omega arith) (keeps_lows a b (n - 1) (omega arith) (omega arith)) (omega arith) (λ q. absurd (omega arith))

-- ---- the answers together

-- the bounds that are kept fit what is lent
pub keeps_room : {lows owners : List ℕ} {n : ℕ} {f : ℕ → ℕ} → Keeps lows owners n f → n ≤ room lows owners
keeps_room k = omega (arith, k.fits_lows, k.fits_owners)

-- a change leaves as many bounds as was said before it
pub set_bounds : {lows owners lows' owners' : List ℕ} {n m m' v : ℕ} {lo hi : Bound} {f : ℕ → ℕ} → Keeps lows owners n f → Left lows owners n lo hi v m
    → AfterSet lows owners n lo hi v (Ok m') lows' owners' → m' ≡ m
set_bounds {f = f} k l s = takes_unique (keeps_takes (s.is f k)) (l.is f k)

-- and if there is room for that many it is not refused
pub set_fits : {lows owners lows' owners' : List ℕ} {n m v : ℕ} {lo hi : Bound} {f : ℕ → ℕ} {e : NoRoom} → Keeps lows owners n f → Left lows owners n lo hi v m → m ≤ room lows owners
    → AfterSet lows owners n lo hi v (Err e) lows' owners' → ⊥
set_fits {f = f} k l h s = let t = s.is.2 f k in omega (arith, takes_unique (l.is f k) t.1, t.2)
