-- A transfer is carried out: the claim to its keys moves to the host, and nothing else does.
-- Assumes nothing.
use mathlib.Core.Path.{◌≡◌, refl, sym, ap, ◌∙◌, subst}
use mathlib.Core.Bool.{Bool, true, false, cond, false≢true}
use mathlib.Core.List.{List, [], ◌∷◌, ◌++◌}
use mathlib.Core.Option.{Option, none, some}
use Prim.Native.Nat.{ℕ, ◌+◌, ◌-◌, ◌≤◌}
use native.Mathlib.Omega.{arith}
use lib.ListN.{drop}
use Rattle.keys.specs.declared.Bound.{Bound}
use Rattle.keys.specs.Bound.{holds}
use Rattle.format.specs.Format.{Entry, Above}
use Rattle.message.specs.Message.{Address, Body, delegate}
use Rattle.decoding.specs.Decode.{same}
use Rattle.decoding.proofs.Decided.{same_refl}
use Rattle.protocol.specs.Address.{among, at}
use Rattle.protocol.specs.Records.{Value, look, replacing}
use Rattle.protocol.specs.Owners.{giving}
use Rattle.protocol.specs.State.{Host, Letter, done, different}
use Rattle.protocol.proofs.Addresses.{same_false}
use Rattle.protocol.proofs.Entries.{look_replacing, above_replacing, or_else}
use Rattle.world.specs.World.{Executed}
use Rattle.world.specs.Events.{noted}
use Rattle.world.specs.Claims.{mine, in_room, moves, says}
use Rattle.world.specs.Single.{table_of}
use Rattle.world.proofs.Lists.{All}
use Rattle.world.proofs.Sums.{sum, sum2, sum_at, sum2_at}
use Rattle.world.proofs.Links.{Fair, Link, link_carried, link_room}
use Rattle.world.proofs.Invariant.{States, Moves, LinkOf, way, bit, own, moving, ways, Kept, Local, Core}
use Rattle.world.proofs.Local.{local_done}
use Rattle.world.proofs.Changes.{at_cases, keep, at_self, noted_there, noted_else, Cell, link_as, way_as, cell_link, cell_way}
use Rattle.world.proofs.Quiet.{locals}
use Rattle.world.proofs.Kept.{all_replacing}
use Rattle.world.proofs.Given.{given_in, given_out, given_host, test, one_moved, pair_cases}

module _ {H : List Address} {S : States} {E : List Executed} {M C : Moves} (K : Core H S E M C) (d : different H ≡ true) (x : Address)
    (isHost : among x H ≡ true) (l : Letter) (there : (S x).room ≡ some l) (sender : among l.from H ≡ true) where
  in_room_lem : in_room l.from (S x).room ≡ l.body ∷ []
  in_room_lem = ap (in_room l.from) there ∙ rw (same_refl l.from) refl

  link_there : Link (M l.from x) (C l.from x) ((S l.from).waiting x) ((S l.from).acknowledged x) ((S x).received l.from) (l.body ∷ [])
  link_there = link_as refl refl refl refl refl (sym in_room_lem) (K.link l.from x sender isHost)

  -- it is one that cannot be refused
  pub room_fair : Fair l.body
  room_fair = link_room l.body link_there

  module _ (lo hi : Bound) (es : List Entry) (t : ℕ) (is : l.body ≡ delegate lo hi es)
      (inside : (k : ℕ) → holds lo hi k ≡ false → look k es ≡ none) (sorted : Above 0 es) (short : All Kept es) where
    abbrev g : Host
    g = done (giving lo hi (S x).me (S x).owners) (replacing lo hi es (S x).records) t (S x)

    abbrev T : States
    T = at x g S

    abbrev D : Moves
    D = noted l.from x l.body C

    me_is : (S x).me ≡ x
    me_is = (K.local x isHost).me_is

    local_there : Local H E x g
    local_there =
        local_done (K.local x isHost) (giving lo hi (S x).me (S x).owners) (replacing lo hi es (S x).records) t
        (given_host H lo hi (S x).me (S x).owners (subst (λ (z : Address). among z H ≡ true) (sym me_is) isHost) (K.local x isHost).owner_in)
        (above_replacing lo hi es (S x).records (K.local x isHost).sorted)
        (all_replacing Kept lo hi es (S x).records short (K.local x isHost).kept)

    else_cell : (a b : Address) → (a ≡ l.from → b ≡ x → ⊥) → Cell S M C T M D a b
    else_cell a b n = record {
      made = refl;
      carried = noted_else l.from x l.body C a b n;
      waiting = keep x g S (λ f. f.waiting b) a (λ e. ap (λ (z : Address). (S z).waiting b) (sym e));
      acknowledged = keep x g S (λ f. f.acknowledged b) a (λ e. ap (λ (z : Address). (S z).acknowledged b) (sym e));
      received = keep x g S (λ f. f.received a) b (λ e. ap (λ (z : Address). (S z).received a) (sym e));
      room = keep x g S (λ f. in_room a f.room) b
          (λ e.
          let u : same l.from a ≡ false = same_false l.from a (λ w. n (sym w) e) in
          let v : in_room a (S b).room ≡ [] = ap (in_room a) (ap (λ (z : Address). (S z).room) e ∙ there) ∙ rw u refl in
          sym v);
    }

    -- what is on its way then, but for the transfer in the room
    abbrev rest : List Body
    rest = drop ((S x).received l.from - (S l.from).acknowledged x) ((S l.from).waiting x)

    way_before : way S l.from x ≡ l.body ∷ rest
    way_before = ap (λ (r : List Body). r ++ rest) in_room_lem

    waiting_same : (T l.from).waiting x ≡ (S l.from).waiting x
    waiting_same = keep x g S (λ f. f.waiting x) l.from (λ q. ap (λ (z : Address). (S z).waiting x) (sym q))

    acknowledged_same : (T l.from).acknowledged x ≡ (S l.from).acknowledged x
    acknowledged_same = keep x g S (λ f. f.acknowledged x) l.from (λ q. ap (λ (z : Address). (S z).acknowledged x) (sym q))

    received_same : (T x).received l.from ≡ (S x).received l.from
    received_same = ap (λ (f : Host). f.received l.from) (at_self x g S x refl)

    room_free : in_room l.from (T x).room ≡ []
    room_free = ap (λ (f : Host). in_room l.from f.room) (at_self x g S x refl)

    way_after : way T l.from x ≡ rest
    way_after = way_as waiting_same acknowledged_same received_same room_free

    link_here : LinkOf T M D l.from x
    link_here =
        link_as refl (noted_there l.from x l.body C) waiting_same acknowledged_same received_same room_free
        (link_carried l.body link_there)

    -- the key's claim
    moves_is : (k : ℕ) → moves l.body k ≡ holds lo hi k
    moves_is k = ap (λ (m : Body). moves m k) is

    own_other : (k : ℕ) (y : Address) → (y ≡ x → ⊥) → own S k y ≡ own T k y
    own_other k y n = sym (keep x g S (λ f. bit (mine f y k)) y (λ e. absurd (n e)))

    own_here : (k : ℕ) → own T k x ≡ bit (mine g x k)
    own_here k = ap (λ (f : Host). bit (mine f x k)) (at_self x g S x refl)

    balance : (k : ℕ) → own T k x + ways T k l.from x ≡ own S k x + ways S k l.from x
    balance k = test (holds lo hi k) (own T k x + ways T k l.from x ≡ own S k x + ways S k l.from x) inn out
      where
        before : ways S k l.from x ≡ bit (moves l.body k) + moving rest k
        before = ap (λ (z : List Body). moving z k) way_before

        behind : ways T k l.from x ≡ moving rest k
        behind = ap (λ (z : List Body). moving z k) way_after

        inn : holds lo hi k ≡ true → own T k x + ways T k l.from x ≡ own S k x + ways S k l.from x
        inn e =
            let u : bit (moves l.body k) ≡ 1 = ap bit (moves_is k ∙ e) in
            let v : bit (mine g x k) ≡ 1 =
            ap (λ (a : Address). bit (same a x)) (given_in lo hi (S x).me (S x).owners k e ∙ me_is) ∙ ap bit (same_refl x) in
            let s : own S k x ≤ sum (own S k) H = sum_at (own S k) H x isHost in
            let r : ways S k l.from x ≤ sum2 (ways S k) H = sum2_at (ways S k) H l.from x sender isHost in
            omega (arith, before, behind, u, v, s, r, K.one k, own_here k)

        out : holds lo hi k ≡ false → own T k x + ways T k l.from x ≡ own S k x + ways S k l.from x
        out e =
            let u : bit (moves l.body k) ≡ 0 = ap bit (moves_is k ∙ e) in
            let v : bit (mine g x k) ≡ own S k x = ap (λ (a : Address). bit (same a x)) (given_out lo hi (S x).me (S x).owners k e) in
            omega (arith, before, behind, u, v, own_here k)

    else_none : (v : Option Value) → or_else v none ≡ v
    else_none none = refl
    else_none (some w) = refl

    right_here : (k : ℕ) → mine g x k ≡ true → look k (replacing lo hi es (S x).records) ≡ table_of E k
    right_here k m =
        look_replacing lo hi es (S x).records sorted (K.local x isHost).sorted k
        ∙ test (holds lo hi k) (or_else (look k es) (cond (holds lo hi k) none (look k (S x).records)) ≡ table_of E k) inn out
      where
        inn : holds lo hi k ≡ true → or_else (look k es) (cond (holds lo hi k) none (look k (S x).records)) ≡ table_of E k
        inn e =
            let A : All (λ c. moves c k ≡ true → says c k ≡ table_of E k) (l.body ∷ rest) =
            subst (λ (z : List Body). All (λ c. moves c k ≡ true → says c k ≡ table_of E k) z) way_before (K.right_way k l.from x sender isHost) in
            let s : says l.body k ≡ look k es = ap (λ (c : Body). says c k) is in
            ap (λ (u : Bool). or_else (look k es) (cond u none (look k (S x).records))) e ∙ else_none (look k es) ∙ sym s ∙ A.0 (moves_is k ∙ e)

        out : holds lo hi k ≡ false → or_else (look k es) (cond (holds lo hi k) none (look k (S x).records)) ≡ table_of E k
        out e =
            let w : mine (S x) x k ≡ true = ap (λ (a : Address). same a x) (sym (given_out lo hi (S x).me (S x).owners k e)) ∙ m in
            ap (λ (u : Bool). or_else (look k es) (cond u none (look k (S x).records))) e
            ∙ ap (λ (v : Option Value). or_else v (look k (S x).records)) (inside k e)
            ∙ K.right k x isHost w

    clean_here : (k : ℕ) → mine g x k ≡ false → look k (replacing lo hi es (S x).records) ≡ none
    clean_here k m =
        test (holds lo hi k) (look k (replacing lo hi es (S x).records) ≡ none)
        (λ e.
        let v : mine g x k ≡ true = ap (λ (a : Address). same a x) (given_in lo hi (S x).me (S x).owners k e ∙ me_is) ∙ same_refl x in
        absurd (false≢true (sym m ∙ v)))
        (λ e.
        look_replacing lo hi es (S x).records sorted (K.local x isHost).sorted k
        ∙ ap (λ (u : Bool). or_else (look k es) (cond u none (look k (S x).records))) e
        ∙ ap (λ (v : Option Value). or_else v (look k (S x).records)) (inside k e)
        ∙ K.clean k x isHost (ap (λ (a : Address). same a x) (sym (given_out lo hi (S x).me (S x).owners k e)) ∙ m))

    pub core_carried : Core H T E M D
    core_carried = record {
      local = locals K x isHost g E local_there (λ y e n. K.local y e);
      link = λ a b e f. pair_cases a b l.from x (λ y z. LinkOf T M D y z) link_here (λ n. cell_link (else_cell a b n) (K.link a b e f));
      one = λ k. one_moved H S T x l.from x d isHost sender isHost k (own_other k) (λ a b e f n. cell_way (else_cell a b n)) (balance k) ∙ K.one k;
      right = λ k y e m.
          at_cases x g S (λ f. mine f y k ≡ true → look k f.records ≡ table_of E k) y
          (λ q w. right_here k (subst (λ (z : Address). mine g z k ≡ true) q w)) (λ n w. K.right k y e w) m;
      clean = λ k y e m.
          at_cases x g S (λ f. mine f y k ≡ false → look k f.records ≡ none) y
          (λ q w. clean_here k (subst (λ (z : Address). mine g z k ≡ false) q w)) (λ n w. K.clean k y e w) m;
      right_way = λ k a b e f.
          pair_cases a b l.from x (λ y z. All (λ c. moves c k ≡ true → says c k ≡ table_of E k) (way T y z))
          (subst (λ (z : List Body). All (λ c. moves c k ≡ true → says c k ≡ table_of E k) z) (sym way_after)
          (subst (λ (z : List Body). All (λ c. moves c k ≡ true → says c k ≡ table_of E k) z) way_before (K.right_way k l.from x sender isHost)).1)
          (λ n.
          subst (λ (z : List Body). All (λ c. moves c k ≡ true → says c k ≡ table_of E k) z) (sym (cell_way (else_cell a b n))) (K.right_way k a b e f));
      answered = K.answered;
      once = K.once;
    }
