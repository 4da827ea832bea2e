-- When a Shard is refused: what the code finds of the recipient, of the map and of the table, against the definition's test.
-- Assumes nothing.
use mathlib.Core.Path.{◌≡◌, refl, sym, ap, ◌∙◌, subst}
use mathlib.Core.Bool.{Bool, true, false, ◌&&◌, ◌||◌, not}
use mathlib.Core.List.{List}
use Prim.Native.Nat.{ℕ, ◌<◌}
use native.Mathlib.Omega.{arith}
use lib.ListN.{length}
use lib.Dec.{ltb, leb}
use Rattle.limits.specs.Limits.{entries_limit}
use Rattle.keys.specs.declared.Bound.{Bound}
use Rattle.keys.specs.Bound.{below}
use Rattle.message.specs.Message.{Address}
use Rattle.decoding.specs.Decode.{same}
use Rattle.decoding.proofs.Decided.{same_refl}
use Rattle.protocol.specs.Address.{among}
use Rattle.protocol.specs.Records.{in_range}
use Rattle.protocol.specs.Owners.{whole}
use Rattle.protocol.specs.State.{Host}
use Rattle.protocol.specs.Process.{refused}
use Rattle.hosts.specs.declared.State.{State}
use Rattle.hosts.specs.Memory.{Memory}
use Rattle.hosts.specs.Says.{firsts}
use Rattle.hosts.specs.Keeps.{Core}
use Rattle.protocol.proofs.Addresses.{or_right, same_false}
use Rattle.hosts.proofs.Names.{among_firsts, firsts_among}
use Rattle.accepting.proofs.Laws.{leb_not}
use Rattle.shards.specs.Answers.{movable}

or_left : (s t : Bool) → s ≡ true → s || t ≡ true
or_left s t e = rw e refl

-- the definition's tests of the range
range_tests : (a b : Bool) (n : ℕ) → not a || (not b || leb entries_limit n) ≡ not (a && (b && ltb n entries_limit))
range_tests false b n = refl
range_tests true false n = refl
range_tests true true n = leb_not n entries_limit

module _ (h : Host) (lo hi : Bound) (a : Address) where
  -- by the recipient and by the range
  refused_is : refused h lo hi a ≡ same a h.me || (not (among a h.hosts) || not (movable h lo hi))
  refused_is =
      ap (λ (t : Bool). same a h.me || (not (among a h.hosts) || t))
      (range_tests (below lo hi) (whole lo hi h.me h.owners) (length (in_range lo hi h.records)))

  pub refused_range : movable h lo hi ≡ false → refused h lo hi a ≡ true
  refused_range e = refused_is ∙ or_right (same a h.me) _ (or_right (not (among a h.hosts)) _ (ap not e))

  module _ (m : Memory) (k : State) (C : Core m k h) where
    -- no other host has the address
    pub refused_recipient : ((i : ℕ) → i < k.hosts → C.N i ≡ a → i ≡ k.me) → refused h lo hi a ≡ true
    refused_recipient only = refused_is ∙ go (among a h.hosts) refl
      where
        go : (t : Bool) → among a h.hosts ≡ t → same a h.me || (not (among a h.hosts) || not (movable h lo hi)) ≡ true
        go true e =
            let w = firsts_among C.N k.hosts a (subst (λ (l : List Address). among a l ≡ true) (sym C.says.hosts_are) e) in
            let z : a ≡ h.me = sym w.2 ∙ ap C.N (only w.0 w.1 w.2) ∙ C.says.me_is in
            or_left (same a h.me) _ (subst (λ (b : Address). same a b ≡ true) z (same_refl a))
        go false e = or_right (same a h.me) _ (or_left (not (among a h.hosts)) _ (ap not e))

    -- another host has it, and the range can be moved
    pub not_refused : (i : ℕ) → i < k.hosts → C.N i ≡ a → (i ≡ k.me → ⊥) → movable h lo hi ≡ true → refused h lo hi a ≡ false
    not_refused i p e n t =
        let s : same a h.me ≡ false =
        same_false a h.me
        (λ z.
        n (C.names_kept.distinct i k.me (omega (arith, C.says.few)) (omega (arith, C.says.own, C.says.few)) (e ∙ z ∙ sym C.says.me_is))) in
        let g : among a h.hosts ≡ true =
        subst (λ (l : List Address). among a l ≡ true) C.says.hosts_are
        (subst (λ (b : Address). among b (firsts C.N k.hosts) ≡ true) e (among_firsts C.N k.hosts i p)) in
        refused_is ∙ rw (s, g, t) refl
