-- `transferring::delegate` meets its contract.
-- Assumes nothing.
use mathlib.Core.Path.{◌≡◌, refl}
use mathlib.Core.List.{List}
use Prim.Native.Nat.{ℕ}
use native.Mathlib.Omega.{arith}
use Rattle.std.specs.Prelude.{Err}
use Rattle.message.specs.Message.{Datagram}
use Rattle.message.specs.Answers.{AfterWrite}
use Rattle.message.specs.declared.Refused.{Refused}
use Rattle.message.specs.declared.Refused.TheVariants.{NoRoom, Invalid}
use Rattle.delegating.specs.Columns.{Columns, AfterDelegate}
use Rattle.sending.proofs.Laws.{no_name, unwritten_if, sent}
use Rattle.transferring.proofs.delegate.Goals as goal

-- what the writer refuses is as it was, and a list is refused as every message is
module _ {ks ats ls bytes : List ℕ} {m : ℕ} {w : Datagram} {d d' : List ℕ} where
  kept : (e : Refused) → AfterDelegate ks ats ls bytes m w d (Err e) d' → d' ≡ d
  kept NoRoom A = A.is.1.0
  kept Invalid A = A.is.0

  why : (e : Refused) → AfterDelegate ks ats ls bytes m w d (Err e) d' → Columns ks ats ls bytes m → AfterWrite w d (Err e) d'
  why NoRoom A C = record { is = A.is.1 }
  why Invalid A C = record { is = (A.is.0, A.is.1 C) }

pub returns-in_default-clause-is : goal.returns-in_default-clause-is
returns-in_default-clause-is c = no_name c.in_default.ensures

pub returns-in_default-delegate-clause-is : goal.returns-in_default-delegate-clause-is
returns-in_default-delegate-clause-is c =
    let A = c.in_default-delegate.ensures in
    unwritten_if c.in-Some.ensures c.in-Some-lies.ensures (λ n N K q. refl) _ (kept _ A) (λ n C. why _ A C)

pub returns-clause-is : goal.returns-clause-is
returns-clause-is c =
    sent c.in-Some.ensures c.in-Some-lies.ensures (λ n N K q. refl) (omega arith) (record { is = c.in-Ok.ensures.is.1 }) c.post.ensures
