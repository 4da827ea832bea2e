-- What a message is, one law for each answer of the code.
-- Assumes nothing.
use mathlib.Core.Path.{◌≡◌, refl, subst}
use mathlib.Core.Bool.{Bool, true, false}
use mathlib.Core.List.{List}
use Prim.Native.Nat.{ℕ, ◌+◌, ◌-◌, ◌≤◌, ◌<◌}
use native.Mathlib.Omega.{arith}
use lib.ListN.{take, drop}
use Rattle.format.specs.declared.Part.{Part}
use Rattle.memory.proofs.Parts.{part_taken}
use Rattle.message.specs.Message.{Address}
use Rattle.message.specs.View.{bytes_of}
use Rattle.hosts.specs.declared.State.{State}
use Rattle.hearing.specs.Answers.{Own, Last}
use Rattle.sorting.specs.declared.Kind.TheVariants.{Elsewhere, Again, Future, Next}
use Rattle.sorting.specs.Answers.{AfterSort}

-- the destination as the code reads it
abbrev destination : List ℕ → Part → Address
destination s to = take (to.at + to.len - to.at) (drop to.at s)

own_as : {name_lens names : List ℕ} {k : State} (s : List ℕ) (to : Part) {r t : Bool} → Own name_lens names k (destination s to) r → r ≡ t
    → Own name_lens names k (bytes_of s to) t
own_as {name_lens} {names} {k} s to {r} O e =
    subst (λ (b : Bool). Own name_lens names k (bytes_of s to) b) e
    (subst (λ (x : Address). Own name_lens names k x r) (part_taken s to.at to.len) O)

module _ {name_lens names counts : List ℕ} {k : State} {a : Address} {s : List ℕ} {n : ℕ} {to : Part} where
  module _ {own : Bool} (D : Own name_lens names k (destination s to) own) where
    pub elsewhere : own ≡ false → AfterSort name_lens names counts k a s n to Elsewhere
    elsewhere o = record {
      is = λ lows owners keys slots lens values places mail h C p.
          (own_as s to D o).other refl lows owners keys slots lens values counts places mail h C;
    }

    module _ (o : own ≡ true) {last : ℕ} (L : Last name_lens names counts k a last) where
      pub again : n ≤ last → AfterSort name_lens names counts k a s n to Again
      again l = record {
        is = λ lows owners keys slots lens values places mail h C p.
            let f : last ≡ h.received a = L.is lows owners keys slots lens values places mail h C in
            ((own_as s to D o).yes refl lows owners keys slots lens values counts places mail h C, omega (arith, l, f));
      }

      pub future : last < n → (n - last ≡ 1 → ⊥) → AfterSort name_lens names counts k a s n to Future
      future l v = record {
        is = λ lows owners keys slots lens values places mail h C p.
            let f : last ≡ h.received a = L.is lows owners keys slots lens values places mail h C in
            ((own_as s to D o).yes refl lows owners keys slots lens values counts places mail h C, omega (arith, l, v, f));
      }

      pub next : {i : ℕ} → last < n → n - last ≡ 1 → AfterSort name_lens names counts k a s n to (Next i)
      next l v = record {
        is = λ lows owners keys slots lens values places mail h C p.
            let f : last ≡ h.received a = L.is lows owners keys slots lens values places mail h C in
            ((own_as s to D o).yes refl lows owners keys slots lens values counts places mail h C, omega (arith, l, v, f));
      }
