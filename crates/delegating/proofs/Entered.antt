-- The laws of a list of entries that is handed in as columns: how many bytes it takes, and when it may be written.
-- Assumes nothing.
use mathlib.Core.Path.{◌≡◌, refl, sym, ap, ◌∙◌, subst}
use mathlib.Core.Logic.{⊎_elim}
use mathlib.Core.List.{List, ◌++◌}
use Prim.Native.Nat.{ℕ, zero, suc, ◌+◌, ◌-◌, ◌≤◌, ◌<◌}
use native.Mathlib.Omega.{arith}
use lib.ListN.{length, get_or, length-append}
use Rattle.limits.specs.Limits.{bytes_max}
use Rattle.memory.specs.Bytes.{placed, part}
use Rattle.memory.proofs.Parts.{length_placed, placed_then, length_part}
use Rattle.columns.specs.Column.{Rising}
use Rattle.columns.proofs.Cases.{lt_or_ge}
use Rattle.format.specs.Number.{width, numbers, digits}
use Rattle.format.specs.Format.{Entry, entries, counted, rows, listing, encode, Above, Small, Good}
use Rattle.format.specs.Place.{row}
use Rattle.format.proofs.Numbers.{length_digits}
use Rattle.sizes.specs.Sizes.{sizes}
use Rattle.sizes.proofs.Laws.{sizes_step}
use Rattle.delegating.specs.Columns.{entered, Columns}

-- ---- how many there are and how many bytes they take

module _ (ks ats ls bytes : List ℕ) where
  pub entered_length : (i k : ℕ) → length (entered ks ats ls bytes i k) ≡ k
  entered_length i zero = refl
  entered_length i (suc k) = ap suc (entered_length (suc i) k)

  -- the bytes of one entry
  abbrev one : ℕ → List ℕ
  one i = encode row (get_or ks i 0, part bytes (get_or ats i 0) (get_or ls i 0))

  pub rows_step : (i k : ℕ) → 0 < k → rows (entered ks ats ls bytes i k)
      ≡ encode row (get_or ks i 0, part bytes (get_or ats i 0) (get_or ls i 0)) ++ rows (entered ks ats ls bytes (i + 1) (k - 1))
  rows_step i zero h = absurd (omega arith)
  rows_step i (suc k) h =
      let e : suc k - 1 ≡ k = omega arith in
      let o : i + 1 ≡ suc i = omega arith in
      rw (e, o) refl

  module _ (m : ℕ) (C : Columns ks ats ls bytes m) where
    pub value_length : (i : ℕ) → i < m → length (part bytes (get_or ats i 0) (get_or ls i 0)) ≡ get_or ls i 0
    value_length i h = length_part bytes (get_or ats i 0) (get_or ls i 0) (C.values.within i h)

    pub row_size : (i : ℕ) → i < m → length (encode row (get_or ks i 0, part bytes (get_or ats i 0) (get_or ls i 0))) ≡ width + width + get_or ls i 0
    row_size i h =
        let v : List ℕ = part bytes (get_or ats i 0) (get_or ls i 0) in
        omega (
          arith,
          length-append (digits width (get_or ks i 0)) (counted v),
          length-append (digits width (length v)) v,
          length_digits width (get_or ks i 0),
          length_digits width (length v),
          value_length i h,
        )

    pub rows_size : (i k : ℕ) → i + k ≤ m → length (rows (entered ks ats ls bytes i k)) ≡ sizes ls i k
    rows_size i zero h = refl
    rows_size i (suc k) h =
        let v : List ℕ = part bytes (get_or ats i 0) (get_or ls i 0) in
        omega (
          arith,
          length-append (encode row (get_or ks i 0, v)) (rows (entered ks ats ls bytes (suc i) k)),
          row_size i (omega arith),
          rows_size (suc i) k (omega arith),
        )

    pub listing_size : length (listing (entered ks ats ls bytes 0 m)) ≡ width + sizes ls 0 m
    listing_size =
        let l : List Entry = entered ks ats ls bytes 0 m in
        omega (arith, length-append (digits width (length l)) (rows l), length_digits width (length l), rows_size 0 m (omega arith))

    -- ---- writing them, one after the other: what is left of them, written behind those that are there, makes the whole

    module _ (i at : ℕ) (d : List ℕ) (h : i < m) (fits : at + sizes ls i (m - i) ≤ length d) where
      left : m - (i + 1) ≡ m - i - 1
      left = omega arith

      rest : sizes ls i (m - i) ≡ width + width + get_or ls i 0 + sizes ls (i + 1) (m - (i + 1))
      rest = rw left (sizes_step ls i (m - i) (omega arith))

      pub entry_fits : at + (width + width + get_or ls i 0) ≤ length d
      entry_fits = omega (arith, fits, rest)

      module _ (d' w : List ℕ) (same : w ≡ part bytes (get_or ats i 0) (get_or ls i 0)) (is : d' ≡ placed d at (encode row (get_or ks i 0, w))) where
        put : d' ≡ placed d at (one i)
        put = is ∙ ap (λ (v : List ℕ). placed d at (encode row (get_or ks i 0, v))) same

        pub more_length : length d' ≡ length d
        more_length = ap length put ∙ length_placed d at (one i) (omega (arith, entry_fits, row_size i h))

        pub more_fits : at + (width + width + get_or ls i 0) + sizes ls (i + 1) (m - (i + 1)) ≤ length d'
        more_fits = omega (arith, fits, rest, more_length)

        pub more_is : (target : List ℕ) → placed d at (rows (entered ks ats ls bytes i (m - i))) ≡ target
            → placed d' (at + (width + width + get_or ls i 0)) (rows (entered ks ats ls bytes (i + 1) (m - (i + 1)))) ≡ target
        more_is target e =
            let r : List ℕ = rows (entered ks ats ls bytes (i + 1) (m - (i + 1))) in
            let z : length r ≡ sizes ls (i + 1) (m - (i + 1)) = rows_size (i + 1) (m - (i + 1)) (omega arith) in
            let q : rows (entered ks ats ls bytes i (m - i)) ≡ one i ++ r = rw left (rows_step i (m - i) (omega arith)) in
            ap (λ (x : List ℕ). placed x (at + (width + width + get_or ls i 0)) r) put
            ∙ ap (λ (k : ℕ). placed (placed d at (one i)) (at + k) r) (sym (row_size i h))
            ∙ placed_then d at (one i) r (omega (arith, fits, rest, z, row_size i h))
            ∙ ap (placed d at) (sym q)
            ∙ e

    -- the count, then the entries
    pub listing_put : (at : ℕ) (d d₁ d₂ : List ℕ) → at + (width + sizes ls 0 m) ≤ length d → d₁ ≡ placed d at (digits width m)
        → d₂ ≡ placed d₁ (at + width) (rows (entered ks ats ls bytes 0 m)) → d₂ ≡ placed d at (listing (entered ks ats ls bytes 0 m))
    listing_put at d d₁ d₂ h p q =
        let l : List Entry = entered ks ats ls bytes 0 m in
        let e : length (digits width m) ≡ width = length_digits width m in
        let z : length (rows l) ≡ sizes ls 0 m = rows_size 0 m (omega arith) in
        q
        ∙ ap (λ (x : List ℕ). placed x (at + width) (rows l)) p
        ∙ ap (λ (k : ℕ). placed (placed d at (digits width m)) (at + k) (rows l)) (sym e)
        ∙ placed_then d at (digits width m) (rows l) (omega (arith, h, e, z))
        ∙ ap (λ (k : ℕ). placed d at (digits width k ++ rows l)) (sym (entered_length 0 m))

    -- ---- when the list may be written: its keys rise, and it is not too long

    small : ((i : ℕ) → get_or ks i 0 < numbers) → length bytes < numbers → (i k : ℕ) → i + k ≤ m → Small (entered ks ats ls bytes i k)
    small b s i zero h = tt
    small b s i (suc k) h =
        let q : i < m = omega arith in
        (b i, omega (arith, s, value_length i q, C.values.within i q), small b s (suc i) k (omega arith))

    above : Rising ks m → (i k low : ℕ) → i + k ≤ m → (0 < k → low ≤ get_or ks i 0) → Above low (entered ks ats ls bytes i k)
    above r i zero low h f = tt
    above r i (suc k) low h f =
        (f (omega arith), above r (suc i) k (suc (get_or ks i 0)) (omega arith) (λ q. r i (suc i) (omega arith) (omega arith)))

    pub entered_good : Rising ks m → ((i : ℕ) → get_or ks i 0 < numbers) → length bytes < numbers → m < numbers → width + sizes ls 0 m ≤ bytes_max
        → Good (entries bytes_max) (entered ks ats ls bytes 0 m)
    entered_good r b s c z = (
      subst (λ (n : ℕ). n < numbers) (sym (entered_length 0 m)) c,
      small b s 0 m (omega arith),
      above r 0 m 0 (omega arith) (λ q. omega arith),
      subst (λ (n : ℕ). n ≤ bytes_max) (sym listing_size) z,
    )

    pub entered_long : bytes_max < width + sizes ls 0 m → Good (entries bytes_max) (entered ks ats ls bytes 0 m) → ⊥
    entered_long z g = omega (arith, g.3, listing_size, z)

  -- keys that do not rise are refused rightly

  every : (low i k : ℕ) → Above low (entered ks ats ls bytes i k) → (j : ℕ) → i ≤ j → j < i + k → low ≤ get_or ks j 0
  every low i zero a j p q = absurd (omega arith)
  every low i (suc k) a j p q =
      ⊎_elim
      (λ h. omega (arith, a.0, every (suc (get_or ks i 0)) (suc i) k a.1 j h (omega arith)))
      (λ h. let e : i ≡ j = omega arith in subst (λ (x : ℕ). low ≤ get_or ks x 0) e a.0)
      (lt_or_ge i j)

  pub above_rising : (low i k : ℕ) → Above low (entered ks ats ls bytes i k) → (j j' : ℕ) → i ≤ j → j < j' → j' < i + k → get_or ks j 0 < get_or ks j' 0
  above_rising low i zero a j j' p q r = absurd (omega arith)
  above_rising low i (suc k) a j j' p q r =
      ⊎_elim
      (λ h. above_rising (suc (get_or ks i 0)) (suc i) k a.1 j j' h q (omega arith))
      (λ h.
      let e : i ≡ j = omega arith in
      subst (λ (x : ℕ). get_or ks x 0 < get_or ks j' 0) e (every (suc (get_or ks i 0)) (suc i) k a.1 j' (omega arith) (omega arith)))
      (lt_or_ge i j)
