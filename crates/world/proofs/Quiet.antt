-- Steps that leave every claim where it is: a message is taken, an Ack arrives, the message in the room is done with, a stranger gets an answer.
-- Assumes nothing.
use mathlib.Core.Path.{◌≡◌, refl, sym, ap, ◌∙◌, subst}
use mathlib.Core.Bool.{true, false}
use mathlib.Core.List.{List, [], ◌∷◌, ◌++◌}
use mathlib.Core.Option.{none, some}
use Prim.Native.Nat.{ℕ, suc, ◌-◌, ◌≤◌, ◌<◌}
use native.Mathlib.Omega.{arith}
use lib.ListN.{length, drop}
use Rattle.limits.specs.Limits.{bytes_max}
use Rattle.format.specs.Number.{numbers}
use Rattle.message.specs.Message.{Address, Body, message}
use Rattle.message.specs.Table.{Valid}
use Rattle.decoding.specs.Decode.{same}
use Rattle.decoding.proofs.Decided.{same_refl}
use Rattle.protocol.specs.Address.{among, at}
use Rattle.protocol.specs.Records.{look}
use Rattle.protocol.specs.Owners.{Owners, owner_of}
use Rattle.protocol.specs.State.{Host, Letter, took, done}
use Rattle.protocol.specs.Delivery.{next, posted, confirmed}
use Rattle.protocol.proofs.Addresses.{same_false, at_other, at_same}
use Rattle.world.specs.World.{Executed}
use Rattle.world.specs.Events.{nth}
use Rattle.world.specs.Claims.{mine, in_room, moves, says}
use Rattle.world.specs.Single.{table_of}
use Rattle.world.proofs.Lists.{All}
use Rattle.world.proofs.Sums.{among_not}
use Rattle.world.proofs.Links.{Link, link_took, way_took, link_arrived, link_way}
use Rattle.world.proofs.Invariant.{States, Moves, LinkOf, way, Told, Local, Core}
use Rattle.world.proofs.Local.{local_took, local_confirmed, local_done, local_posted}
use Rattle.world.proofs.Changes.{cases, at_cases, keep, at_self, Cell, link_as, way_as, cell_link, cell_way, one_steady}

module _ {H : List Address} {S : States} {E : List Executed} {M C : Moves} (K : Core H S E M C) (x : Address) (isHost : among x H ≡ true)
    (g : Host) where
  -- every host's own
  pub locals : (F : List Executed) → Local H F x g → ((y : Address) → among y H ≡ true → (y ≡ x → ⊥) → Local H F y (S y))
      → (y : Address) → among y H ≡ true → Local H F y (at x g S y)
  locals F L O y e = at_cases x g S (λ f. Local H F y f) y (λ q. subst (λ (z : Address). Local H F z g) (sym q) L) (λ n. O y e n)

  -- a host keeps its map
  pub maps_kept : g.owners ≡ (S x).owners → (k : ℕ) (y : Address) → mine (at x g S y) y k ≡ mine (S y) y k
  maps_kept o k y =
      keep x g S (λ f. mine f y k) y (λ q. ap (λ (w : Owners). same (owner_of w k) y) (o ∙ ap (λ (z : Address). (S z).owners) (sym q)))

  pub records_kept : g.records ≡ (S x).records → (y : Address) → (at x g S y).records ≡ (S y).records
  records_kept r y = keep x g S (λ f. f.records) y (λ q. r ∙ ap (λ (z : Address). (S z).records) (sym q))

  -- map and records stay, and so does what is on its way
  pub core_quiet : Local H E x g → g.owners ≡ (S x).owners → g.records ≡ (S x).records
      → ((a b : Address) → among a H ≡ true → among b H ≡ true → LinkOf (at x g S) M C a b × (way (at x g S) a b ≡ way S a b))
      → Core H (at x g S) E M C
  core_quiet L o r links = record {
    local = locals E L (λ y e n. K.local y e);
    link = λ a b p q. (links a b p q).0;
    one = λ k. one_steady H S (at x g S) k (λ y e. maps_kept o k y) (λ a b p q. (links a b p q).1) ∙ K.one k;
    right = λ k y e m. ap (look k) (records_kept r y) ∙ K.right k y e (sym (maps_kept o k y) ∙ m);
    clean = λ k y e m. ap (look k) (records_kept r y) ∙ K.clean k y e (sym (maps_kept o k y) ∙ m);
    right_way = λ k a b p q.
        subst (λ (l : List Body). All (λ m. moves m k ≡ true → says m k ≡ table_of E k) l) (sym (links a b p q).1) (K.right_way k a b p q);
    answered = K.answered;
    once = K.once;
  }

-- from a link that stays
pub stays : {S : States} {M C : Moves} {T : States} {a b : Address} → Cell S M C T M C a b → LinkOf S M C a b
    → LinkOf T M C a b × (way T a b ≡ way S a b)
stays N K = (cell_link N K, cell_way N)

-- ---- a message is taken from a, the next one of a's; if a is a host, it is the next that a has sent

module _ {H : List Address} {S : States} {E : List Executed} {M C : Moves} (K : Core H S E M C) (x : Address) (isHost : among x H ≡ true)
    (free : (S x).room ≡ none) (a : Address) (n : ℕ) (b : Body) (peers : List Address) (new : n ≡ suc ((S x).received a))
    (valid : Valid (message n x b)) (short : length a < bytes_max) (sent : among a H ≡ true → nth ((S x).received a) (M a x) ≡ some b)
    (All-stay : (c : Address) → among c (S x).peers ≡ true → among c peers ≡ true) (joins : among a peers ≡ true) where
  abbrev g : Host
  g = took a n b peers (at a n (S x).received) (S x)

  else_cell : (p q : Address) → (p ≡ a → q ≡ x → ⊥) → Cell S M C (at x g S) M C p q
  else_cell p q d = record {
    made = refl;
    carried = refl;
    waiting = keep x g S (λ f. f.waiting q) p (λ e. ap (λ (z : Address). (S z).waiting q) (sym e));
    acknowledged = keep x g S (λ f. f.acknowledged q) p (λ e. ap (λ (z : Address). (S z).acknowledged q) (sym e));
    received = keep x g S (λ f. f.received p) q
        (λ e. at_other a n (S x).received p (λ w. d w e) ∙ ap (λ (z : Address). (S z).received p) (sym e));
    room = keep x g S (λ f. in_room p f.room) q
        (λ e.
        let u : same a p ≡ false = same_false a p (λ w. d (sym w) e) in
        let v : in_room p (S q).room ≡ [] = ap (in_room p) (ap (λ (z : Address). (S z).room) e ∙ free) in
        rw u (sym v));
  }

  here : among a H ≡ true → LinkOf (at x g S) M C a x × (way (at x g S) a x ≡ way S a x)
  here e =
      let empty : in_room a (S x).room ≡ [] = ap (in_room a) free in
      let L : Link (M a x) (C a x) ((S a).waiting x) ((S a).acknowledged x) ((S x).received a) [] =
      subst (λ (l : List Body). Link (M a x) (C a x) ((S a).waiting x) ((S a).acknowledged x) ((S x).received a) l) empty (K.link a x e isHost) in
      let w : (at x g S a).waiting x ≡ (S a).waiting x = keep x g S (λ f. f.waiting x) a (λ q. ap (λ (z : Address). (S z).waiting x) (sym q)) in
      let k : (at x g S a).acknowledged x ≡ (S a).acknowledged x =
      keep x g S (λ f. f.acknowledged x) a (λ q. ap (λ (z : Address). (S z).acknowledged x) (sym q)) in
      let r : (at x g S x).received a ≡ suc ((S x).received a) =
      ap (λ (f : Host). f.received a) (at_self x g S x refl) ∙ at_same a n (S x).received ∙ new in
      let R : in_room a (at x g S x).room ≡ b ∷ [] =
      ap (λ (f : Host). in_room a f.room) (at_self x g S x refl) ∙ rw (same_refl a) refl in (
        link_as refl refl w k r R (link_took L b (sent e)),
        way_as w k r R ∙ way_took L b (sent e) ∙ sym (ap (λ (t : List Body). t ++ drop ((S x).received a - (S a).acknowledged x) ((S a).waiting x)) empty),
      )

  pub core_took : Core H (at x g S) E M C
  core_took =
      core_quiet K x isHost g (local_took (K.local x isHost) a n b peers new valid short All-stay joins) refl refl
      (λ p q e f.
      cases p a (LinkOf (at x g S) M C p q × (way (at x g S) p q ≡ way S p q))
      (λ u.
      cases q x (LinkOf (at x g S) M C p q × (way (at x g S) p q ≡ way S p q))
      (λ v.
      subst (λ (z : Address). LinkOf (at x g S) M C z q × (way (at x g S) z q ≡ way S z q)) (sym u)
      (subst (λ (z : Address). LinkOf (at x g S) M C a z × (way (at x g S) a z ≡ way S a z)) (sym v)
      (here (subst (λ (z : Address). among z H ≡ true) u e))))
      (λ v. stays {M = M} {C = C} (else_cell p q (λ s t. v t)) (K.link p q e f)))
      (λ u. stays {M = M} {C = C} (else_cell p q (λ s t. u s)) (K.link p q e f)))

-- ---- messages up to the number n have arrived at a; if a is a host, it has received so many

module _ {H : List Address} {S : States} {E : List Executed} {M C : Moves} (K : Core H S E M C) (x : Address) (isHost : among x H ≡ true)
    (a : Address) (n : ℕ) (more : (S x).acknowledged a < n) (small : n < numbers) (true-ack : among a H ≡ true → n ≤ (S a).received x) where
  abbrev c : Host
  c = confirmed a n (S x)

  other_cell : (p q : Address) → (p ≡ x → q ≡ a → ⊥) → Cell S M C (at x c S) M C p q
  other_cell p q d = record {
    made = refl;
    carried = refl;
    waiting = keep x c S (λ f. f.waiting q) p
        (λ e. at_other a (drop (n - (S x).acknowledged a) ((S x).waiting a)) (S x).waiting q (d e) ∙ ap (λ (z : Address). (S z).waiting q) (sym e));
    acknowledged = keep x c S (λ f. f.acknowledged q) p
        (λ e. at_other a n (S x).acknowledged q (d e) ∙ ap (λ (z : Address). (S z).acknowledged q) (sym e));
    received = keep x c S (λ f. f.received p) q (λ e. ap (λ (z : Address). (S z).received p) (sym e));
    room = keep x c S (λ f. in_room p f.room) q (λ e. ap (λ (z : Address). in_room p (S z).room) (sym e));
  }

  there : among a H ≡ true → LinkOf (at x c S) M C x a × (way (at x c S) x a ≡ way S x a)
  there e =
      let L = K.link x a isHost e in
      let w : (at x c S x).waiting a ≡ drop (n - (S x).acknowledged a) ((S x).waiting a) =
      ap (λ (f : Host). f.waiting a) (at_self x c S x refl) ∙ at_same a (drop (n - (S x).acknowledged a) ((S x).waiting a)) (S x).waiting in
      let k : (at x c S x).acknowledged a ≡ n = ap (λ (f : Host). f.acknowledged a) (at_self x c S x refl) ∙ at_same a n (S x).acknowledged in
      let r : (at x c S a).received x ≡ (S a).received x = keep x c S (λ f. f.received x) a (λ q. ap (λ (z : Address). (S z).received x) (sym q)) in
      let R : in_room x (at x c S a).room ≡ in_room x (S a).room =
      keep x c S (λ f. in_room x f.room) a (λ q. ap (λ (z : Address). in_room x (S z).room) (sym q)) in
      let N = link_arrived L n (omega (arith, more)) (true-ack e) in
      (link_as refl refl w k r R N, way_as w k r R ∙ link_way N ∙ sym (link_way L))

  pub core_confirmed : Core H (at x c S) E M C
  core_confirmed =
      core_quiet K x isHost c (local_confirmed (K.local x isHost) a n more small) refl refl
      (λ p q e f.
      cases p x (LinkOf (at x c S) M C p q × (way (at x c S) p q ≡ way S p q))
      (λ u.
      cases q a (LinkOf (at x c S) M C p q × (way (at x c S) p q ≡ way S p q))
      (λ v.
      subst (λ (z : Address). LinkOf (at x c S) M C z q × (way (at x c S) z q ≡ way S z q)) (sym u)
      (subst (λ (z : Address). LinkOf (at x c S) M C x z × (way (at x c S) x z ≡ way S x z)) (sym v)
      (there (subst (λ (z : Address). among z H ≡ true) v f))))
      (λ v. stays {M = M} {C = C} (other_cell p q (λ s t. v t)) (K.link p q e f)))
      (λ u. stays {M = M} {C = C} (other_cell p q (λ s t. u s)) (K.link p q e f)))

-- ---- a stranger's message is done with

module _ (H : List Address) (S : States) (x : Address) (l : Letter) (there : (S x).room ≡ some l) (strange : among l.from H ≡ false) where
  -- it was on its way from no host
  pub no_way : (a : Address) → among a H ≡ true → in_room a (S x).room ≡ []
  no_way a e =
      let u : same l.from a ≡ false = same_false l.from a (λ q. among_not a l.from H e strange (sym q)) in
      ap (in_room a) there ∙ rw u refl

  -- whoever waits for nothing new is a host
  pub freed_cell : {M C : Moves} (g : Host) → g.room ≡ none → ((b : Address) → among b H ≡ true → g.waiting b ≡ (S x).waiting b)
      → ((b : Address) → g.acknowledged b ≡ (S x).acknowledged b) → ((b : Address) → g.received b ≡ (S x).received b)
      → (a b : Address) → among a H ≡ true → among b H ≡ true → Cell S M C (at x g S) M C a b
  freed_cell g r w k v a b e f = record {
    made = refl;
    carried = refl;
    waiting = keep x g S (λ f. f.waiting b) a (λ q. w b f ∙ ap (λ (z : Address). (S z).waiting b) (sym q));
    acknowledged = keep x g S (λ f. f.acknowledged b) a (λ q. k b ∙ ap (λ (z : Address). (S z).acknowledged b) (sym q));
    received = keep x g S (λ f. f.received a) b (λ q. v a ∙ ap (λ (z : Address). (S z).received a) (sym q));
    room = keep x g S (λ f. in_room a f.room) b
        (λ q. ap (in_room a) r ∙ sym (no_way a e) ∙ ap (λ (z : Address). in_room a (S z).room) (sym q));
  }

module _ {H : List Address} {S : States} {E : List Executed} {M C : Moves} (K : Core H S E M C) (x : Address) (isHost : among x H ≡ true)
    (l : Letter) (there : (S x).room ≡ some l) (strange : among l.from H ≡ false) where
  -- .. and that is all
  pub core_dropped : (t : ℕ) → Core H (at x (done (S x).owners (S x).records t (S x)) S) E M C
  core_dropped t =
      core_quiet K x isHost (done (S x).owners (S x).records t (S x))
      (local_done (K.local x isHost) (S x).owners (S x).records t (K.local x isHost).owner_in (K.local x isHost).sorted (K.local x isHost).kept)
      refl refl
      (λ a b e f.
      stays {M = M} {C = C} (freed_cell H S x l there strange (done (S x).owners (S x).records t (S x)) refl (λ z w. refl) (λ z. refl) (λ z. refl) a b e f) (K.link a b e f))

  -- .. and a stranger gets a message that executes nothing
  pub core_told : (t : ℕ) (c : Address) → among c H ≡ false → (b : Body) → next (S x) c < numbers → Valid (message (next (S x) c) c b)
      → among c (S x).peers ≡ true → Told H E x c (next (S x) c) b → Core H (at x (posted c b (done (S x).owners (S x).records t (S x))) S) E M C
  core_told t c other b small valid place T =
      core_quiet K x isHost (posted c b (done (S x).owners (S x).records t (S x)))
      (local_posted
      (local_done (K.local x isHost) (S x).owners (S x).records t (K.local x isHost).owner_in (K.local x isHost).sorted (K.local x isHost).kept)
      refl c b small valid place T)
      refl refl
      (λ p q e f.
      stays {M = M} {C = C}
      (freed_cell H S x l there strange (posted c b (done (S x).owners (S x).records t (S x))) refl
      (λ z w. at_other c ((S x).waiting c ++ (b ∷ [])) (S x).waiting z (among_not z c H w other))
      (λ z. refl) (λ z. refl) p q e f)
      (K.link p q e f))
