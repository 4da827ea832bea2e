-- Hosts in lent memory follow a run of the world.
-- Assumes nothing.
use mathlib.Core.Path.{◌≡◌, refl, sym, ◌∙◌, subst}
use mathlib.Core.Bool.{Bool, true, false, cond, ◌&&◌}
use mathlib.Core.List.{List, [], ◌∷◌, ◌++◌}
use mathlib.Core.Option.{none, some, some-injective, none-ne-some}
use Prim.Native.Nat.{ℕ, zero, suc}
use Rattle.message.specs.Message.{Address}
use Rattle.decoding.proofs.Decided.{same_refl}
use Rattle.protocol.specs.Address.{among}
use Rattle.protocol.specs.State.{Host, fresh, start, different, short}
use Rattle.world.specs.World.{World, begin}
use Rattle.world.specs.Events.{Event, step, run}
use Rattle.world.proofs.Theorem.{theorem}
use Rattle.world.proofs.Begin.{starts}
use Rattle.homes.specs.Homes.{Homes, Path}
use Rattle.homes.specs.Theorem.{Kept, Follows, Theorem}
use Rattle.homes.proofs.Following.{follows_one}

run_append : (W : World) (l m : List Event) → run W (l ++ m) ≡ run (run W l) m
run_append W [] m = refl
run_append W (e ∷ l) m = run_append (step W e) l m

pub follows_all : {hosts : List Address} {R Q : Homes} {W : World} (n : ℕ) → Follows hosts R W → Path hosts n R Q
    → (l : List Event) × Follows hosts Q (run W l)
follows_all {hosts} {R} {Q} {W} zero F e = ([], subst (λ (z : Homes). Follows hosts z W) e F)
follows_all {hosts} {R} {Q} {W} (suc n) F p =
    let a = follows_one F p.1 in
    let b = follows_all {R = p.0} {W = run W a.0} n a.1 p.2 in
    (a.0 ++ b.0, subst (λ (z : World). Follows hosts Q z) (sym (run_append W a.0 b.0)) b.1)

-- a list with which a host has started is one of different addresses, and they are short
started_list : (first : Address) (others : List Address) (me : Address) (h : Host) → start (first ∷ others) me ≡ some h
    → (different (first ∷ others) ≡ true) × (short (first ∷ others) ≡ true)
started_list first others me h e = go (different (first ∷ others)) refl (short (first ∷ others)) refl e
  where
    go : (t : Bool) → different (first ∷ others) ≡ t → (u : Bool) → short (first ∷ others) ≡ u
        → cond (t && (u && among me (first ∷ others))) (some (fresh first (first ∷ others) me)) none ≡ some h
        → (different (first ∷ others) ≡ true) × (short (first ∷ others) ≡ true)
    go true p true q r = (p, q)
    go true p false q r = absurd (none-ne-some h r)
    go false p u q r = absurd (none-ne-some h r)

pub homes : Theorem
homes first others R Q S n p =
    let A = S.each first (rw (same_refl first) refl) in
    let L = started_list first others first A.0 A.1 in
    let F : Follows (first ∷ others) R (begin first others) = record {
      hosts_are = refl;
      keeps = λ x e.
          let B = S.each x e in
          subst (λ (h : Host). Kept (R.home x) h) (some-injective B.0 ((begin first others).state x) (sym B.1 ∙ starts first others L.0 L.1 x e)) B.2;
      sent_is = S.nothing_sent;
    } in
    let E = follows_all n F p in
    (E.0, E.1, theorem first others L.0 L.1 E.0)
