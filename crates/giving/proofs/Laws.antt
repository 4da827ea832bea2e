-- The range given away, one law for each answer of the code.
-- Assumes nothing.
use mathlib.Core.Path.{◌≡◌, ap}
use mathlib.Core.List.{List}
use Prim.Native.Nat.{ℕ, suc, ◌<◌}
use native.Mathlib.Omega.{arith}
use Rattle.limits.specs.Limits.{numbers}
use Rattle.keys.specs.declared.Bound.{Bound}
use Rattle.std.specs.Prelude.{Ok, Err}
use Rattle.limits.specs.declared.NoRoom.{NoRoom}
use Rattle.delegation.specs.Map.{AfterSet}
use Rattle.removals.specs.Answers.{AfterRemove}
use Rattle.hosts.specs.declared.State.{State}
use Rattle.hosts.specs.declared.Done.{Done}
use Rattle.hosts.specs.declared.Processed.TheVariants.{Handed}
use Rattle.hosts.specs.Answers.{moved, dropped_of}
use Rattle.giving.specs.Answers.{AfterGive}

module _ {lows owners keys slots lows' owners' : List ℕ} {k : State} {lo hi : Bound} {i p : ℕ} where
  -- the map is full: that is never so
  pub not_given : {e : NoRoom} {d : Done} → AfterSet lows owners k.bounds lo hi i (Err e) lows' owners' → d ≡ dropped_of k
      → AfterGive lows owners keys slots k lo hi i p d lows' owners' keys slots
  not_given A z = record {
    freed = ap (λ (x : Done). x.state.len) z;
    is = λ lens values f T K L small fits. let w = A.is.2 f K in absurd (omega (arith, fits w.0 w.1, w.2));
  }

  pub given : {b n : ℕ} {keys' slots' : List ℕ} {t : State} → AfterSet lows owners k.bounds lo hi i (Ok b) lows' owners'
      → AfterRemove keys slots k.entries lo hi n keys' slots' → t.len ≡ 0 → (suc k.transfers < numbers → t ≡ moved k b n)
      → AfterGive lows owners keys slots k lo hi i p (record { state = t; outcome = Handed p }) lows' owners' keys' slots'
  given {b} {n} A R z M = record {
    freed = z;
    is = λ lens values f T K L small fits. record {
      bounds = b;
      entries = n;
      answer = ap (λ (x : State). record { state = x; outcome = Handed p }) (M small);
      map_kept = A.is f K;
      table_kept = R.is lens values T L;
    };
  }
