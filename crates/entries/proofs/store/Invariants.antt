-- The entries passed are stored.
use Prim.Native.Nat.{ℕ, ◌≤◌, ◌<◌}
use lib.ListN.{length, get_or}
use Rattle.limits.specs.Limits.{value_max}
use Rattle.records.specs.Table.{Table, storing, Size}
use Rattle.memory.specs.Bytes.{part}
use Rattle.records.specs.Memory.{Keeps}
use Rattle.entered.specs.Entered.{Entered}
use Rattle.entries.proofs.store.Given as goal

abbrev pub invariant-loop-t : goal.invariant-loop-t
invariant-loop-t l =
    (T : Table) → Keeps l.initial.keys l.initial.slots l.initial.lens l.initial.values l.n T → Entered l.ks l.ats l.ls l.bytes l.m → ((i : ℕ) → i < l.m → get_or l.ls i 0 ≤ value_max)
    → (s : ℕ) → Size (storing l.m (λ i. get_or l.ks i 0) (λ i. part l.bytes (get_or l.ats i 0) (get_or l.ls i 0)) T) s → s ≤ length l.initial.slots
    → Keeps l.keys l.slots l.lens l.values l.now (storing l.t (λ i. get_or l.ks i 0) (λ i. part l.bytes (get_or l.ats i 0) (get_or l.ls i 0)) T)
