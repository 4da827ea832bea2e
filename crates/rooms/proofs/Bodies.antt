-- The room test of a body, by its kind.
-- Assumes nothing.
use mathlib.Core.Path.{◌≡◌, sym, ◌∙◌, subst}
use mathlib.Core.Bool.{Bool, false, true≢false, false≢true}
use mathlib.Core.List.{List}
use Prim.Native.Nat.{ℕ}
use Rattle.format.specs.declared.Part.{Part}
use Rattle.message.specs.Message.{Address}
use Rattle.std.specs.Prelude.{Option, Some, None, is_some}
use Rattle.message.specs.declared.BodyView.{BodyView}
use Rattle.message.specs.declared.BodyView.TheVariants.{Get, Set}
use Rattle.picking.specs.Answers.{AfterFree}
use Rattle.hosts.specs.declared.State.{State}
use Rattle.hosts.specs.Memory.{memory}
use Rattle.hosts.proofs.Totals.{free_place, all_taken}
use Rattle.sets.specs.Answers.{TooLong}
use Rattle.rooms.specs.Answers.{Tested}
use Rattle.rooms.specs.Inner.{Vacant}

-- ---- a free place

pub vacant : {places : List ℕ} (r : Option ℕ) → AfterFree places r → Vacant places (is_some r)
vacant (Some p) A = record { yes = λ y. (p, A.is); no = λ n. absurd (true≢false n) }
vacant None A = record { yes = λ y. absurd (false≢true y); no = λ n. A.is }

-- ---- the kinds

module _ {lows owners keys slots name_lens names places : List ℕ} {k : State} {a : Address} {s : List ℕ} {body : BodyView} where
  answer_as : {b : BodyView} {r : Bool} → body ≡ b → Tested lows owners keys slots name_lens names places k a s b r → Tested lows owners keys slots name_lens names places k a s body r
  answer_as {b} {r} e A = subst (λ (x : BodyView). Tested lows owners keys slots name_lens names places k a s x r) (sym e) A

  pub get_room : {x : ℕ} {r : Bool} → body ≡ Get x → Vacant places r → Tested lows owners keys slots name_lens names places k a s body r
  get_room e P =
      answer_as e
      (record {
        roomy = λ y lens values counts mail room h l C f b.
            let p = P.yes y in
            free_place (memory lows owners keys slots lens values name_lens names counts places mail) k h C p.0 p.1.within p.1.free;
        lacks = λ n lens values counts mail room h l C f b.
            all_taken (memory lows owners keys slots lens values name_lens names counts places mail) k h C (P.no n);
      })

  module _ {x : ℕ} {v : Option Part} (e : body ≡ Set x v) {t : Bool} (L : TooLong v t) where
    pub set_room : t ≡ false → {r : Bool} → Vacant places r → Tested lows owners keys slots name_lens names places k a s body r
    set_room n P =
        answer_as e
        (record {
          roomy = λ y lens values counts mail room h l C f b z.
              let p = P.yes y in
              free_place (memory lows owners keys slots lens values name_lens names counts places mail) k h C p.0 p.1.within p.1.free;
          lacks = λ o lens values counts mail room h l C f b N.
              all_taken (memory lows owners keys slots lens values name_lens names counts places mail) k h C (P.no o) (N (sym (L.is s b) ∙ n));
        })
