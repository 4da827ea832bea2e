-- A transfer is made, as a stranger's Shard asked: the claim to its keys moves from the host to the transfer, and nothing else does.
-- Assumes nothing.
use mathlib.Core.Path.{◌≡◌, refl, sym, ap, ◌∙◌, subst}
use mathlib.Core.Bool.{Bool, true, false, cond, not, false≢true}
use mathlib.Core.List.{List, [], ◌∷◌, ◌++◌, append_assoc}
use mathlib.Core.Option.{none, some}
use Prim.Native.Nat.{ℕ, ◌+◌, ◌-◌, ◌≤◌, ◌<◌}
use native.Mathlib.Omega.{arith}
use lib.ListN.{length, drop}
use Rattle.keys.specs.declared.Bound.{Bound}
use Rattle.keys.specs.Bound.{holds}
use Rattle.format.specs.Number.{numbers}
use Rattle.message.specs.Message.{Address, Body, delegate, message}
use Rattle.message.specs.Table.{Valid}
use Rattle.decoding.specs.Decode.{same}
use Rattle.decoding.proofs.Decided.{same_refl}
use Rattle.protocol.specs.Address.{among, at}
use Rattle.protocol.specs.Records.{look, in_range, outside}
use Rattle.protocol.specs.Owners.{owner_of, giving}
use Rattle.protocol.specs.State.{Host, Letter, done, different}
use Rattle.protocol.specs.Delivery.{next, posted}
use Rattle.protocol.proofs.Addresses.{same_false, at_other, at_same}
use Rattle.protocol.proofs.Entries.{look_in_range, look_outside, above_kept}
use Rattle.world.specs.World.{Executed}
use Rattle.world.specs.Events.{noted}
use Rattle.world.specs.Claims.{mine, in_room, moves, says}
use Rattle.world.specs.Single.{table_of}
use Rattle.world.proofs.Lists.{All, all_append, drop_append}
use Rattle.world.proofs.Links.{Fair, link_more, link_count}
use Rattle.world.proofs.Invariant.{States, Moves, LinkOf, way, bit, own, moving, ways, Kept, Local, Core}
use Rattle.world.proofs.Local.{local_done, local_posted}
use Rattle.world.proofs.Changes.{at_cases, keep, at_self, noted_there, noted_else, Cell, link_as, way_as, cell_link, cell_way}
use Rattle.world.proofs.Counts.{moving_append}
use Rattle.world.proofs.Quiet.{locals, no_way}
use Rattle.world.proofs.Kept.{all_kept}
use Rattle.world.proofs.Given.{given_in, given_out, given_host, test, one_moved, pair_cases}

module _ {H : List Address} {S : States} {E : List Executed} {M C : Moves} (K : Core H S E M C) (d : different H ≡ true) (x : Address)
    (isHost : among x H ≡ true) (l : Letter) (there : (S x).room ≡ some l) (strange : among l.from H ≡ false) (lo hi : Bound) (a : Address)
    (recipient : among a H ≡ true) (other : a ≡ x → ⊥) (t : ℕ) (all_mine : (k : ℕ) → holds lo hi k ≡ true → owner_of (S x).owners k ≡ x)
    (F : Fair (delegate lo hi (in_range lo hi (S x).records))) (small : next (S x) a < numbers)
    (valid : Valid (message (next (S x) a) a (delegate lo hi (in_range lo hi (S x).records)))) where
  abbrev transfer : Body
  transfer = delegate lo hi (in_range lo hi (S x).records)

  abbrev f : Host
  f = posted a transfer (done (giving lo hi a (S x).owners) (outside lo hi (S x).records) t (S x))

  abbrev U : States
  U = at x f S

  abbrev N : Moves
  N = noted x a transfer M

  local_after : Local H E x f
  local_after =
      local_posted
      (local_done (K.local x isHost) (giving lo hi a (S x).owners) (outside lo hi (S x).records) t
      (given_host H lo hi a (S x).owners recipient (K.local x isHost).owner_in)
      (above_kept (λ j. not (holds lo hi j)) 0 (S x).records (K.local x isHost).sorted)
      (all_kept Kept (λ j. not (holds lo hi j)) (S x).records (K.local x isHost).kept))
      refl a transfer small valid ((K.local x isHost).hosts_known a recipient) tt

  room_same : (p q : Address) → among p H ≡ true → in_room p (U q).room ≡ in_room p (S q).room
  room_same p q e = keep x f S (λ y. in_room p y.room) q (λ w. sym (no_way H S x l there strange p e) ∙ ap (λ (z : Address). in_room p (S z).room) (sym w))

  received_same : (p q : Address) → (U q).received p ≡ (S q).received p
  received_same p q = keep x f S (λ y. y.received p) q (λ w. ap (λ (z : Address). (S z).received p) (sym w))

  acknowledged_same : (p q : Address) → (U p).acknowledged q ≡ (S p).acknowledged q
  acknowledged_same p q = keep x f S (λ y. y.acknowledged q) p (λ w. ap (λ (z : Address). (S z).acknowledged q) (sym w))

  other_cell : (p q : Address) → among p H ≡ true → (p ≡ x → q ≡ a → ⊥) → Cell S M C U N C p q
  other_cell p q e n = record {
    made = noted_else x a transfer M p q n;
    carried = refl;
    waiting = keep x f S (λ y. y.waiting q) p
        (λ w. at_other a ((S x).waiting a ++ (transfer ∷ [])) (S x).waiting q (n w) ∙ ap (λ (z : Address). (S z).waiting q) (sym w));
    acknowledged = acknowledged_same p q;
    received = received_same p q;
    room = room_same p q e;
  }

  waiting_more : (U x).waiting a ≡ (S x).waiting a ++ (transfer ∷ [])
  waiting_more =
      ap (λ (y : Host). y.waiting a) (at_self x f S x refl) ∙ at_same a ((S x).waiting a ++ (transfer ∷ [])) (S x).waiting

  link_more_here : LinkOf U N C x a
  link_more_here =
      link_as (noted_there x a transfer M) refl waiting_more (acknowledged_same x a) (received_same x a) (room_same x a isHost)
      (link_more (K.link x a isHost recipient) transfer F)

  -- it is the last on its way
  way_more : way U x a ≡ way S x a ++ (transfer ∷ [])
  way_more =
      let L = K.link x a isHost recipient in
      let n : (S a).received x - (S x).acknowledged a ≤ length ((S x).waiting a) = omega (arith, link_count L, L.known, L.order) in
      way_as waiting_more (acknowledged_same x a) (received_same x a) (room_same x a isHost)
      ∙ ap (λ (z : List Body). in_room x (S a).room ++ z) (drop_append ((S a).received x - (S x).acknowledged a) ((S x).waiting a) (transfer ∷ []) n)
      ∙ sym (append_assoc (in_room x (S a).room) (drop ((S a).received x - (S x).acknowledged a) ((S x).waiting a)) (transfer ∷ []))

  owner_before : (k : ℕ) → holds lo hi k ≡ true → mine (S x) x k ≡ true
  owner_before k e = ap (λ (z : Address). same z x) (all_mine k e) ∙ same_refl x

  not_mine : (k : ℕ) → holds lo hi k ≡ true → mine f x k ≡ false
  not_mine k e = ap (λ (z : Address). same z x) (given_in lo hi a (S x).owners k e) ∙ same_false a x other

  mine_as : (k : ℕ) → holds lo hi k ≡ false → mine f x k ≡ mine (S x) x k
  mine_as k e = ap (λ (z : Address). same z x) (given_out lo hi a (S x).owners k e)

  own_else : (k : ℕ) (y : Address) → (y ≡ x → ⊥) → own S k y ≡ own U k y
  own_else k y n = sym (keep x f S (λ h. bit (mine h y k)) y (λ e. absurd (n e)))

  own_after : (k : ℕ) → own U k x ≡ bit (mine f x k)
  own_after k = ap (λ (h : Host). bit (mine h x k)) (at_self x f S x refl)

  balance_made : (k : ℕ) → own U k x + ways U k x a ≡ own S k x + ways S k x a
  balance_made k = test (holds lo hi k) (own U k x + ways U k x a ≡ own S k x + ways S k x a) inn out
    where
      more : ways U k x a ≡ ways S k x a + moving (transfer ∷ []) k
      more = ap (λ (z : List Body). moving z k) way_more ∙ moving_append (way S x a) (transfer ∷ []) k

      inn : holds lo hi k ≡ true → own U k x + ways U k x a ≡ own S k x + ways S k x a
      inn e =
          let u : bit (holds lo hi k) ≡ 1 = ap bit e in
          let v : bit (mine f x k) ≡ 0 = ap bit (not_mine k e) in
          let w : own S k x ≡ 1 = ap bit (owner_before k e) in
          omega (arith, more, u, v, w, own_after k)

      out : holds lo hi k ≡ false → own U k x + ways U k x a ≡ own S k x + ways S k x a
      out e =
          let u : bit (holds lo hi k) ≡ 0 = ap bit e in
          let v : bit (mine f x k) ≡ own S k x = ap bit (mine_as k e) in
          omega (arith, more, u, v, own_after k)

  right_after : (k : ℕ) → mine f x k ≡ true → look k (outside lo hi (S x).records) ≡ table_of E k
  right_after k m =
      test (holds lo hi k) (look k (outside lo hi (S x).records) ≡ table_of E k)
      (λ e. absurd (false≢true (sym (not_mine k e) ∙ m)))
      (λ e. look_outside lo hi k (S x).records ∙ ap (λ (u : Bool). cond u none (look k (S x).records)) e ∙ K.right k x isHost (sym (mine_as k e) ∙ m))

  says_right : (k : ℕ) → holds lo hi k ≡ true → look k (in_range lo hi (S x).records) ≡ table_of E k
  says_right k e =
      look_in_range lo hi k (S x).records ∙ ap (λ (u : Bool). cond u (look k (S x).records) none) e ∙ K.right k x isHost (owner_before k e)

  clean_after : (k : ℕ) → mine f x k ≡ false → look k (outside lo hi (S x).records) ≡ none
  clean_after k m =
      look_outside lo hi k (S x).records
      ∙ test (holds lo hi k) (cond (holds lo hi k) none (look k (S x).records) ≡ none) (λ e. rw e refl)
      (λ e. ap (λ (u : Bool). cond u none (look k (S x).records)) e ∙ K.clean k x isHost (sym (mine_as k e) ∙ m))

  pub core_made : Core H U E N C
  core_made = record {
    local = locals K x isHost f E local_after (λ y e n. K.local y e);
    link = λ p q e w. pair_cases p q x a (λ y z. LinkOf U N C y z) link_more_here (λ n. cell_link (other_cell p q e n) (K.link p q e w));
    one = λ k.
        one_moved H S U x x a d isHost isHost recipient k (own_else k) (λ p q e w n. cell_way (other_cell p q e n)) (balance_made k) ∙ K.one k;
    right = λ k y e m.
        at_cases x f S (λ h. mine h y k ≡ true → look k h.records ≡ table_of E k) y
        (λ q w. right_after k (subst (λ (z : Address). mine f z k ≡ true) q w)) (λ n w. K.right k y e w) m;
    clean = λ k y e m.
        at_cases x f S (λ h. mine h y k ≡ false → look k h.records ≡ none) y
        (λ q w. clean_after k (subst (λ (z : Address). mine f z k ≡ false) q w)) (λ n w. K.clean k y e w) m;
    right_way = λ k p q e w.
        pair_cases p q x a (λ y z. All (λ c. moves c k ≡ true → says c k ≡ table_of E k) (way U y z))
        (subst (λ (z : List Body). All (λ c. moves c k ≡ true → says c k ≡ table_of E k) z) (sym way_more)
        (all_append (λ c. moves c k ≡ true → says c k ≡ table_of E k) (way S x a) (transfer ∷ []) (K.right_way k x a isHost recipient) (says_right k, tt)))
        (λ n.
        subst (λ (z : List Body). All (λ c. moves c k ≡ true → says c k ≡ table_of E k) z) (sym (cell_way (other_cell p q e n))) (K.right_way k p q e w));
    answered = K.answered;
    once = K.once;
  }
