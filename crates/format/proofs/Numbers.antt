-- The laws of numbers as bytes: so many bytes make one number, and a number is written in one way.
-- Assumes nothing.
use mathlib.Core.Path.{◌≡◌, refl, sym, ap, ◌∙◌, subst}
use mathlib.Core.List.{List, [], ◌∷◌, ◌++◌, head-eq_of_cons-eq, tail-eq_of_cons-eq}
use Prim.Native.Nat.{ℕ, zero, suc, ◌+◌, ◌*◌, ◌/◌, ◌%◌, ◌^◌, ◌≤◌, ◌<◌}
use native.Mathlib.Nat.{pow-succ', pow-suc, mul_assoc, div-one, div-div-eq-div-mul}
use native.Mathlib.Omega.{arith}
use lib.ListN.{length, take, drop, get_or, length-drop}
use lib.Seq.{drop-cons, length-take-le}
use Rattle.std.specs.Int.{bytes_low_first, byte_at, to_le_bytes, from_le_bytes, w64}
use Rattle.std.proofs.lemmas.Nat.{le_bytes_8}
use Rattle.std.proofs.lemmas.Bool.{cases_lt}
use mathlib.Core.Logic.{⊎_elim}
use Rattle.std.proofs.lemmas.List.{get_or-take, get_or-drop, get_or_past}
use Rattle.format.specs.Number.{base, digits, worth}

pub length_digits : (k n : ℕ) → length (digits k n) ≡ k
unfolding digits
length_digits zero n = refl
length_digits (suc k) n = ap suc (length_digits k (n / base))

-- k bytes in s make a number that fits k bytes, and they are how that number is written
pub worth_small : (s : List ℕ) → ((i : ℕ) → get_or s i 0 < base) → (at k : ℕ) → worth s at k < base ^ k
unfolding worth
worth_small s b at zero = omega arith
worth_small s b at (suc k) = subst (λ (m : ℕ). worth s at (suc k) < m) (sym (pow-succ' base k)) (omega (arith, b at, worth_small s b (suc at) k))

pub digits_worth : (s : List ℕ) → ((i : ℕ) → get_or s i 0 < base) → (at k : ℕ) → at + k ≤ length s → take k (drop at s) ≡ digits k (worth s at k)
unfolding worth digits
digits_worth s b at zero h = refl
digits_worth s b at (suc k) h =
    let m : worth s at (suc k) % base ≡ get_or s at 0 = omega (arith, b at) in
    let d : worth s at (suc k) / base ≡ worth s (suc at) k = omega (arith, b at) in
    rw (drop-cons s at 0 (omega arith), m, d)
    (ap (λ (l : List ℕ). get_or s at 0 ∷ l) (digits_worth s b (suc at) k (omega arith)))

down : (k n : ℕ) → n < base ^ suc k → n / base < base ^ k
down k n p = let u : n < base * base ^ k = subst (λ (x : ℕ). n < x) (pow-succ' base k) p in omega arith

-- a number that fits k bytes is told by them
pub digits_same : (k n m : ℕ) → n < base ^ k → m < base ^ k → digits k n ≡ digits k m → n ≡ m
unfolding digits
digits_same zero n m p q e = omega arith
digits_same (suc k) n m p q e =
    let h : n % base ≡ m % base = head-eq_of_cons-eq e in
    let t : n / base ≡ m / base = digits_same k (n / base) (m / base) (down k n p) (down k m q) (tail-eq_of_cons-eq e) in
    omega arith

-- a number that is written at a place is what the bytes there are worth
pub worth_is : (k n : ℕ) → n < base ^ k → (s : List ℕ) (at : ℕ) (rest : List ℕ) → drop at s ≡ digits k n ++ rest → worth s at k ≡ n
unfolding digits worth
worth_is zero n p s at rest e = omega arith
worth_is (suc k) n p s at rest e =
    let h : at < length s = omega (arith, length-drop at s, ap length e) in
    let u : get_or s at 0 ∷ drop (suc at) s ≡ n % base ∷ (digits k (n / base) ++ rest) = sym (drop-cons s at 0 h) ∙ e in
    let hd : get_or s at 0 ≡ n % base = head-eq_of_cons-eq u in
    let t : worth s (suc at) k ≡ n / base = worth_is k (n / base) (down k n p) s (suc at) rest (tail-eq_of_cons-eq u) in
    omega arith

-- ---- a number from its halves

pub worth_add : (s : List ℕ) (at j k : ℕ) → worth s at (j + k) ≡ worth s at j + base ^ j * worth s (at + j) k
unfolding worth
worth_add s at zero k =
    let e : at + 0 ≡ at = omega arith in
    let z : 0 + k ≡ k = omega arith in
    rw (e, z) (omega arith)
worth_add s at (suc j) k =
    let e : at + suc j ≡ suc at + j = omega arith in
    let z : suc j + k ≡ suc (j + k) = omega arith in
    let h : worth s (suc at) (j + k) ≡ worth s (suc at) j + base ^ j * worth s (suc at + j) k = worth_add s (suc at) j k in
    let p : base ^ suc j * worth s (suc at + j) k ≡ base * (base ^ j * worth s (suc at + j) k) =
    ap (λ (x : ℕ). x * worth s (suc at + j) k) (pow-succ' base j) ∙ mul_assoc base (base ^ j) (worth s (suc at + j) k) in
    rw (e, z) (omega (arith, h, p))

-- two bytes, and the same number of bytes twice
pub worth_two : (s : List ℕ) (at : ℕ) → get_or s at 0 + 256 * get_or s (at + 1) 0 ≡ worth s at 2
unfolding worth
worth_two s at = let e : at + 1 ≡ suc at = omega arith in rw e (omega arith)

pub worth_twice : (s : List ℕ) (at k m : ℕ) → m ≡ base ^ k → {x y : ℕ} → x ≡ worth s at k → y ≡ worth s (at + k) k → x + m * y ≡ worth s at (k + k)
worth_twice s at k m e p q = rw (e, p, q) (sym (worth_add s at k k))

pub digits_add : (j k n : ℕ) → digits (j + k) n ≡ digits j n ++ digits k (n / base ^ j)
unfolding digits
digits_add zero k n =
    let z : 0 + k ≡ k = omega arith in
    let o : n / base ^ 0 ≡ n = div-one n in
    rw (z, o) refl
digits_add (suc j) k n =
    let z : suc j + k ≡ suc (j + k) = omega arith in
    let o : n / base ^ suc j ≡ n / base / base ^ j = ap (λ (x : ℕ). n / x) (pow-succ' base j) ∙ sym (div-div-eq-div-mul n base (base ^ j)) in
    rw (z, o) (ap (λ (l : List ℕ). n % base ∷ l) (digits_add j k (n / base)))

-- two bytes, written out
pub digits_two : (n : ℕ) → digits 2 n ≡ n % 256 ∷ n / 256 % 256 ∷ []
unfolding digits
digits_two n = refl

-- ---- the library's bytes of a number are these

-- byte i is the lowest of what is left once i bytes are taken off
lowest : (i n : ℕ) → byte_at i n ≡ n / base ^ i % base
lowest zero n = ap (λ (x : ℕ). x % base) (sym (div-one n))
lowest (suc i) n = refl

-- the bytes from byte i upward
from_byte : (k i n : ℕ) → bytes_low_first i k n ≡ digits k (n / base ^ i)
unfolding digits
from_byte zero i n = refl
from_byte (suc k) i n =
    let o : n / base ^ suc i ≡ n / base ^ i / base = ap (λ (x : ℕ). n / x) (pow-suc base i) ∙ sym (div-div-eq-div-mul n (base ^ i) base) in
    rw (lowest i n) (ap (λ (l : List ℕ). n / base ^ i % base ∷ l) (from_byte k (suc i) n ∙ ap (digits k) o))

pub le_bytes : (n : ℕ) → to_le_bytes w64 n ≡ digits 8 n
le_bytes n = from_byte 8 0 n ∙ ap (digits 8) (div-one n)

-- .. and the number that it reads from eight bytes is what they are worth
pub worth_le : (s : List ℕ) → ((i : ℕ) → get_or s i 0 < base) → (at : ℕ) → at + 8 ≤ length s → (bs : List ℕ) (n : ℕ) → bs ≡ take 8 (drop at s)
    → n < base ^ 8 → n ≡ from_le_bytes w64 bs → n ≡ worth s at 8
worth_le s b at h bs n e small is =
    let long : length bs ≡ 8 = rw e (length-take-le 8 (drop at s) (omega (arith, length-drop at s))) in
    let each : (i : ℕ) → get_or bs i 0 < 256 =
    λ i. ⊎_elim (λ p. rw (e, get_or-take 8 (drop at s) i 0 p, get_or-drop at s i 0) (b (at + i))) (λ p. let z : get_or bs i 0 ≡ 0 = get_or_past bs i 0 (omega arith) in omega arith) (cases_lt i 8) in
    digits_same 8 n (worth s at 8) small (worth_small s b at 8) (sym (le_bytes n) ∙ le_bytes_8 bs n long each is ∙ e ∙ digits_worth s b at 8 h)
