-- A Set is the definition's step: dropped, referred to the owner, or carried out.
-- Assumes nothing.
use mathlib.Core.Path.{◌≡◌, refl}
use mathlib.Core.Bool.{Bool, true, false}
use mathlib.Core.List.{List}
use Rattle.std.specs.Prelude.{Option, Some, Ok, Err}
use mathlib.Core.Option.{Option as Maybe, some}
use Prim.Native.Nat.{ℕ, ◌+◌, ◌-◌}
use lib.ListN.{length, take, drop}
use Rattle.memory.proofs.Parts.{part_taken}
use Rattle.format.specs.declared.Part.{Part}
use Rattle.message.specs.View.{value_of}
use Rattle.delegation.specs.Map.{Owner}
use Rattle.decoding.specs.Decode.{same}
use Rattle.picking.specs.declared.Refused.{Refused}
use Rattle.picking.specs.declared.Refused.TheVariants.{NoNumber, NoPlace}
use Rattle.picking.specs.Answers.{AfterPick}
use Rattle.protocol.specs.Owners.{owner_of}
use Rattle.protocol.specs.Records.{Value}
use Rattle.protocol.specs.State.{Host, Letter}
use Rattle.protocol.specs.Process.{on_set}
use Rattle.hosts.specs.declared.State.{State}
use Rattle.hosts.specs.declared.Done.{Done}
use Rattle.hosts.specs.declared.Processed.TheVariants.{Dropped, Unnumbered}
use Rattle.hosts.specs.Memory.{Memory}
use Rattle.hosts.specs.Keeps.{Core}
use Rattle.hosts.specs.Limits.{fits_value}
use Rattle.hosts.specs.Answers.{emptied, sent_or, dropped_of, Heard, Does}
use Rattle.hosts.proofs.Totals.{all_taken}
use Rattle.hosts.proofs.Core.{mailed, does_dropped, unanswered, no_number}
use Rattle.referring.specs.Answers.{AfterRefer}
use Rattle.getting.proofs.Laws.{mine, other}
use Rattle.storing.specs.Answers.{AfterStore}
use Rattle.sets.specs.Answers.{Sound, IsSound}
use Rattle.setting.specs.Answers.{AfterSet, AfterSettle}

-- ---- a value that is not too long, from a place and a number that were picked

module _ {m : Memory} {k : State} {s : List ℕ} {key : ℕ} {v : Option Part} {p x : ℕ} where
  -- the key is another host's
  pub refers : {counts places mail : List ℕ} {owner : ℕ} {r : Done} → Sound s v → Owner m.lows m.owners k.bounds key owner → (owner ≡ k.me → ⊥)
      → AfterRefer m.name_lens m.names m.counts m.places m.mail k p x key owner r counts places mail
      → AfterSettle m k s key v p x r (mailed m counts places mail)
  refers {owner = owner} G O ne R =
      let Z = R.is m.lows m.owners m.keys m.slots m.lens m.values in
      record {
        is = record {
          freed = Z.freed;
          is = λ h l C H P. rw (G.short, other m k key owner O ne h C) (Z.is h l C H (record { picked = P; owner_is = λ D. O.is D.f D.map_kept }));
        };
      }

  -- the key is the host's own
  pub sets : {owner : ℕ} {r : Done} {m' : Memory} {w : Maybe Value} → Sound s v → Owner m.lows m.owners k.bounds key owner → owner ≡ k.me
      → w ≡ value_of s v → AfterStore m k key w p x r m' → AfterSettle m k s key v p x r m'
  sets {owner = owner} G O e q S =
      let A = rw q at S in
      record {
        is = record {
          freed = A.is.freed;
          is = λ h l C H P. A.is.is h l C H (record { short = G.short; picked = P; own = mine m k key owner O e h C });
        };
      }

-- ---- the Set

module _ {m : Memory} {k : State} {s : List ℕ} {key : ℕ} {v : Option Part} where
  -- a value that is too long is dropped
  pub too_long : {r : Done} → IsSound s v false → r ≡ dropped_of k → AfterSet m k s key v r m
  too_long I e =
      rw e (record { is = record { freed = refl; is = λ h l C H Q. rw (I.other refl Q.inside) (does_dropped m k h C Dropped refl) } })

  pub picks : {m' : Memory} {p x : ℕ} {r : Done} → AfterPick m.counts m.places k.from (Ok (p, x)) → AfterSettle m k s key v p x r m' → AfterSet m k s key v r m'
  picks A R = record {
    is = record {
      freed = R.is.freed;
      is = λ h l C H q.
          R.is.is h l C H (record { place_open = A.is.0; number_is = λ D. A.is.1 m.mail k.size k.peers D.P D.post_kept H.from_in });
    };
  }

  runs_out : {r : Done} → Sound s v → AfterPick m.counts m.places k.from (Err NoNumber) → r ≡ sent_or k false Dropped → AfterSet m k s key v r m
  runs_out G A e =
      rw e (record { is = record { freed = refl; is = λ h l C H Q. rw G.short (either h l C H (same (owner_of h.owners key) h.me)) } })
    where
      either : (h : Host) (l : Letter) (C : Core m k h) → Heard m k l → (t : Bool)
          → Does m (emptied k) Unnumbered (on_set false t (fits_value (length m.slots) h key (value_of s v)) h l key (value_of s v))
      either h l C H true =
          rw (no_number m k h C k.from H.from_in l.from H.from_is (A.is m.mail k.size k.peers C.P C.post_kept H.from_in)) (does_dropped m k h C Unnumbered refl)
      either h l C H false =
          unanswered m k h C k.from H.from_in l.from H.from_is (A.is m.mail k.size k.peers C.P C.post_kept H.from_in) _ _ _

  no_place : {r : Done} → Sound s v → AfterPick m.counts m.places k.from (Err NoPlace) → r ≡ sent_or k false Dropped → AfterSet m k s key v r m
  no_place G A e =
      rw e (record { is = record { freed = refl; is = λ h l C H Q. absurd (all_taken m k h C A.is.0 (Q.place G.short)) } })

  -- there is no number or no place for the answer
  pub refused : {r : Done} → Sound s v → (e : Refused) → AfterPick m.counts m.places k.from (Err e) → r ≡ sent_or k false Dropped → AfterSet m k s key v r m
  refused G NoNumber A e = runs_out G A e
  refused G NoPlace A e = no_place G A e

-- what code takes of the datagram is the value
pub value_taken : (s : List ℕ) {v : Option Part} {part : Part} → v ≡ Some part
    → some (take (part.at + part.len - part.at) (drop part.at s)) ≡ value_of s v
value_taken s {part = part} e = rw (e, part_taken s part.at part.len) refl

pub sound_as : {s : List ℕ} {v : Option Part} {r t : Bool} → r ≡ t → IsSound s v r → IsSound s v t
sound_as e I = rw e at I
