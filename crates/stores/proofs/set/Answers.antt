-- `stores::set` meets its contract. A key that is found gets another value where it stands; any other is added.
-- Assumes nothing.
use mathlib.Core.Path.{refl}
use mathlib.Core.List.{List}
use Prim.Native.Nat.{ℕ, ◌≤◌}
use native.Mathlib.Omega.{arith}
use lib.ListN.{length}
use Rattle.limits.specs.Limits.{value_max}
use Rattle.searches.specs.Search.{SeekCases}
use Rattle.std.specs.Prelude.{Result, Ok, Err}
use Rattle.records.specs.Table.{Value}
use Rattle.stores.specs.Answers.{SetCases}
use Rattle.stores.specs.Inner.{RenewCases}
use Rattle.stores.specs.declared.Refused.{Refused}
use Rattle.stores.specs.declared.Refused.TheVariants.{Full, TooLong}
use Rattle.records.proofs.Slotted.{keeps_overwrite, place_room}
use Rattle.stores.proofs.set.Goals as goal

-- another value at the key's place is what setting a key that is there answers
renewed : (keys slots lens values : List ℕ) (n i key : ℕ) (v : Value) (r : Result ℕ Refused) (lens' values' : List ℕ) → RenewCases r slots lens values n i v lens' values'
    → length v ≤ value_max → SeekCases (Ok i) keys n key → SetCases r keys slots lens values n key v keys slots lens' values'
renewed keys slots lens values n i key v (Ok m) lens' values' A short s =
    λ T K. rw (A.0, A.2, A.3) (keeps_overwrite keys slots lens values n T K key v short i A.1.place s.0 s.2)
renewed keys slots lens values n i key v (Err Full) lens' values' A short s =
    (refl, refl, A.0, A.1, λ T K. absurd (A.2 (place_room keys slots lens values n T K i (omega (arith, s.0, K.shape.count)))))
renewed keys slots lens values n i key v (Err TooLong) lens' values' A short s = absurd A

pub returns-in-Ok : goal.returns-in-Ok
returns-in-Ok c =
    let a = c.args in
    record {
      is = renewed a.keys.now a.slots.now a.lens.now a.values.now a.n _ a.key a.value.now c.renew.result _ _
          c.renew.ensures.is c.if-value-gt-VALUE_MAX.false c.in-Ok.ensures.is;
    }
