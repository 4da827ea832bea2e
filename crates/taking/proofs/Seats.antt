-- An address that no peer has gets its number as it joins the peers, or there is no place for it.
-- Assumes nothing.
use mathlib.Core.Path.{refl}
use mathlib.Core.Logic.{inl, inr}
use mathlib.Core.List.{List}
use Prim.Native.Nat.{ℕ}
use Rattle.message.specs.Message.{Address}
use Rattle.std.specs.Prelude.{Option, Some, None}
use Rattle.peers.specs.Names.{AfterFind}
use Rattle.taking.specs.Inner.{AfterSeat, AfterJoin}

module _ {lens names counts : List ℕ} {w n : ℕ} {a : Address} where
  pub found : {i : ℕ} → AfterFind lens names w n a (Some i) → AfterSeat lens names counts w n a (Some (i, n)) lens names counts
  found F = record { is = inl (record { same_lens = refl; same_names = refl; same_counts = refl; as_many = refl; is = F.is }) }

  pub not_found : {lens' names' counts' : List ℕ} (r : Option (ℕ × ℕ)) → AfterFind lens names w n a None
      → AfterJoin lens names counts w n a r lens' names' counts' → AfterSeat lens names counts w n a r lens' names' counts'
  not_found (Some (i, n')) F J = record { is = inr (F.is, J.is) }
  not_found None F J = record { is = (F.is, J.is) }
