-- When a Shard is refused: what the code finds of the recipient, of the map and of the table, against the definition's test.
-- Assumes nothing.
use mathlib.Core.Path.{◌≡◌, refl, sym, ap, ◌∙◌, subst}
use mathlib.Core.Bool.{Bool, true, false, ◌||◌, not}
use mathlib.Core.List.{List}
use Prim.Native.Nat.{ℕ, ◌<◌}
use native.Mathlib.Omega.{arith}
use lib.ListN.{length}
use lib.Dec.{leb}
use Rattle.limits.specs.Limits.{entries_limit}
use Rattle.keys.specs.declared.Bound.{Bound}
use Rattle.keys.specs.Bound.{below, holds}
use Rattle.message.specs.Message.{Address}
use Rattle.decoding.specs.Decode.{same}
use Rattle.decoding.proofs.Decided.{same_refl}
use Rattle.protocol.specs.Address.{among}
use Rattle.protocol.specs.Records.{in_range}
use Rattle.protocol.specs.Owners.{whole}
use Rattle.protocol.specs.State.{Host}
use Rattle.protocol.specs.Process.{refused}
use Rattle.protocol.proofs.Whole.{whole_all, all_whole}
use Rattle.hosts.specs.declared.State.{State}
use Rattle.hosts.specs.Memory.{Memory}
use Rattle.hosts.specs.Says.{firsts}
use Rattle.hosts.specs.Keeps.{Core}
use Rattle.protocol.proofs.Addresses.{or_right, same_false}
use Rattle.hosts.proofs.Names.{among_firsts, firsts_among}

or_left : (s t : Bool) → s ≡ true → s || t ≡ true
or_left s t e = rw e refl

-- the Shard of [lo, hi) to the address a, at a host that memory keeps
module _ (m : Memory) (k : State) (h : Host) (C : Core m k h) (lo hi : Bound) (a : Address) where
  -- the rest of the test, behind that of the recipient
  abbrev range : Bool
  range = not (below lo hi) || (not (whole lo hi h.me h.owners) || leb entries_limit (length (in_range lo hi h.records)))

  -- no other host has the address
  pub refused_recipient : ((i : ℕ) → i < k.hosts → C.N i ≡ a → i ≡ k.me) → refused h lo hi a ≡ true
  refused_recipient only = go (among a h.hosts) refl
    where
      go : (t : Bool) → among a h.hosts ≡ t → refused h lo hi a ≡ true
      go true e =
          let w = firsts_among C.N k.hosts a (subst (λ (l : List Address). among a l ≡ true) (sym C.says.hosts_are) e) in
          let z : a ≡ h.me = sym w.2 ∙ ap C.N (only w.0 w.1 w.2) ∙ C.says.me_is in
          or_left (same a h.me) (not (among a h.hosts) || range) (subst (λ (b : Address). same a b ≡ true) z (same_refl a))
      go false e = or_right (same a h.me) (not (among a h.hosts) || range) (or_left (not (among a h.hosts)) range (ap not e))

  behind : range ≡ true → refused h lo hi a ≡ true
  behind e = or_right (same a h.me) (not (among a h.hosts) || range) (or_right (not (among a h.hosts)) range e)

  -- the range is empty, or a key of it is another's
  pub refused_range : (below lo hi ≡ true → (x : ℕ) × (holds lo hi x ≡ true) × (C.f x ≡ k.me → ⊥)) → refused h lo hi a ≡ true
  refused_range other = behind (go (below lo hi) refl)
    where
      inner : (t : Bool) → whole lo hi h.me h.owners ≡ t → (x : ℕ) × (holds lo hi x ≡ true) × (C.f x ≡ k.me → ⊥)
          → not (whole lo hi h.me h.owners) ≡ true
      inner false e w = ap not e
      inner true e w =
          let q = whole_all lo hi h.me h.owners e w.0 w.1 in
          absurd (w.2 (C.names_kept.distinct (C.f w.0) k.me
          (omega (arith, C.says.owner_in w.0, C.says.few)) (omega (arith, C.says.own, C.says.few))
          (C.says.owner_is w.0 ∙ q ∙ sym C.says.me_is)))

      go : (t : Bool) → below lo hi ≡ t → range ≡ true
      go false e = or_left (not (below lo hi)) _ (ap not e)
      go true e =
          or_right (not (below lo hi)) _ (or_left (not (whole lo hi h.me h.owners)) _ (inner (whole lo hi h.me h.owners) refl (other e)))

  -- nothing of that is so: then the number of entries decides
  pub refused_many : (i : ℕ) → i < k.hosts → C.N i ≡ a → (i ≡ k.me → ⊥) → below lo hi ≡ true → ((x : ℕ) → holds lo hi x ≡ true → C.f x ≡ k.me)
      → refused h lo hi a ≡ leb entries_limit (length (in_range lo hi h.records))
  refused_many i p e n b all =
      let s : same a h.me ≡ false = same_false a h.me (λ z.
      n (C.names_kept.distinct i k.me (omega (arith, C.says.few)) (omega (arith, C.says.own, C.says.few)) (e ∙ z ∙ sym C.says.me_is))) in
      let g : among a h.hosts ≡ true =
      subst (λ (l : List Address). among a l ≡ true) C.says.hosts_are
      (subst (λ (b : Address). among b (firsts C.N k.hosts) ≡ true) e (among_firsts C.N k.hosts i p)) in
      let w : whole lo hi h.me h.owners ≡ true =
      all_whole lo hi h.me h.owners (λ x q. sym (C.says.owner_is x) ∙ ap C.N (all x q) ∙ C.says.me_is) in
      rw (s, g, b, w) refl
