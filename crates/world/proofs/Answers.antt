-- A request is carried out: its sender gets the answer, and the single table does the same.
-- Assumes nothing.
use mathlib.Core.Path.{◌≡◌, refl, sym, ap, ◌∙◌, subst}
use mathlib.Core.Bool.{true, false}
use mathlib.Core.List.{List, [], ◌∷◌, ◌++◌}
use mathlib.Core.Logic.{◌⊎◌, inl, ⊎_elim}
use mathlib.Core.Option.{some, none}
use Prim.Native.Nat.{ℕ, ◌+◌, ◌≤◌, ◌<◌}
use native.Mathlib.Omega.{arith}
use lib.ListN.{length}
use Rattle.format.specs.Number.{numbers}
use Rattle.format.specs.Format.{Entry, Above}
use Rattle.message.specs.Message.{Address, Body, message}
use Rattle.message.specs.Table.{Valid}
use Rattle.protocol.specs.Address.{among, at}
use Rattle.protocol.specs.Records.{look}
use Rattle.protocol.specs.State.{Host, Letter, done}
use Rattle.protocol.specs.Delivery.{Act, got, stored, next, posted}
use Rattle.protocol.proofs.Addresses.{at_other}
use Rattle.world.specs.World.{Executed}
use Rattle.world.specs.Claims.{mine, moves, says}
use Rattle.world.specs.Single.{acted, table_of, Right, answer, SameRequest, SameAnswer, NotAgain}
use Rattle.world.proofs.Lists.{All, all_map}
use Rattle.world.proofs.Sums.{among_not}
use Rattle.world.proofs.Invariant.{States, Moves, way, Kept, Told, Lettered, Core}
use Rattle.world.proofs.Local.{local_done, local_answered, local_elsewhere}
use Rattle.world.proofs.Changes.{at_cases, cell_link, cell_way, Cell, one_steady}
use Rattle.world.proofs.Counts.{no_other, no_transfer}
use Rattle.world.proofs.Quiet.{locals, maps_kept, freed_cell}

-- the request in the room was not carried out before, and its answer's number was given to no other
not_again : (e : Executed) (l : List Executed)
    → All (λ f. f.host ≡ e.host → f.request.from ≡ e.request.from → f.request.number < e.request.number) l
    → All (λ f. f.host ≡ e.host → f.request.from ≡ e.request.from → f.answer < e.answer) l → NotAgain e l
not_again e [] A B = tt
not_again e (f ∷ l) A B = (
  (λ (s : SameRequest e f). let u : f.request.number < e.request.number = A.0 (sym s.0) (sym s.1) in omega (arith, u, s.2)),
  (λ (s : SameAnswer e f). let u : f.answer < e.answer = B.0 (sym s.0) (sym s.1) in omega (arith, u, s.2)),
  not_again e l A.1 B.1,
)

module _ {H : List Address} {S : States} {E : List Executed} {M C : Moves} (K : Core H S E M C) (x : Address) (isHost : among x H ≡ true)
    (l : Letter) (there : (S x).room ≡ some l) (strange : among l.from H ≡ false) (act : Act) (es : List Entry) (t : ℕ) where
  -- the request, as it is noted
  abbrev pub request : Executed
  request = record { host = x; request = record { from = l.from; number = l.number; act = act }; answer = next (S x) l.from }

  -- the host afterwards
  abbrev pub answering : Host
  answering = posted l.from (answer act) (done (S x).owners es t (S x))

  explained : (b : Act) → b ≡ act → Told H (request ∷ E) x l.from (next (S x) l.from) (answer b)
  explained (got k v) e = (request, (inl refl, refl, refl, refl, ap answer (sym e)))
  explained (stored k v) e = (request, (inl refl, refl, refl, refl, ap answer (sym e)))

  letter : Lettered E x (S x) l
  letter = (K.local x isHost).room_is l there

  -- The records are what the single table says of all that is mine, and what the request changes is mine
  pub core_answered : Above 0 es → All Kept es → next (S x) l.from < numbers → Valid (message (next (S x) l.from) l.from (answer act))
      → Right act (table_of E) → ((j : ℕ) → mine (S x) x j ≡ true → look j es ≡ acted act (table_of E) j)
      → ((j : ℕ) → (acted act (table_of E) j ≡ table_of E j) ⊎ (mine (S x) x j ≡ true))
      → ((j : ℕ) → mine (S x) x j ≡ false → look j es ≡ none)
      → Core H (at x answering S) (request ∷ E) M C
  core_answered sorted kept small valid right same-look changes nothing = record {
    local = locals K x isHost answering (request ∷ E)
        (local_answered (local_done (K.local x isHost) (S x).owners es t (K.local x isHost).owner_in sorted kept) refl l.from (answer act) small valid letter.known
        request refl (let u = letter.last in omega (arith, u)) refl (explained act refl))
        (λ y e n. local_elsewhere (K.local y e) request (λ q. n (sym q)));
    link = λ a b e f. cell_link (cell a b e f) (K.link a b e f);
    one = λ k. one_steady H S (at x answering S) k (λ y e. maps_kept K x isHost answering refl k y) (λ a b e f. cell_way (cell a b e f)) ∙ K.one k;
    right = λ k y e m.
        let w : mine (S y) y k ≡ true = sym (maps_kept K x isHost answering refl k y) ∙ m in
        at_cases x answering S (λ g. look k g.records ≡ acted act (table_of E) k) y
        (λ q. same-look k (subst (λ (z : Address). mine (S z) z k ≡ true) q w))
        (λ n.
        ⊎_elim (λ s. K.right k y e w ∙ sym s)
        (λ s. absurd (no_other H S k (K.one k) x isHost s y e n w)) (changes k));
    clean = λ k y e m.
        at_cases x answering S (λ g. mine g y k ≡ false → look k g.records ≡ none) y
        (λ q w. nothing k (subst (λ (z : Address). mine (S x) z k ≡ false) q w)) (λ n w. K.clean k y e w) m;
    right_way = λ k a b e f.
        subst (λ (z : List Body). All (λ m. moves m k ≡ true → says m k ≡ acted act (table_of E) k) z) (sym (cell_way (cell a b e f)))
        (⊎_elim
        (λ s. all_map (λ m. moves m k ≡ true → says m k ≡ table_of E k) (λ m. moves m k ≡ true → says m k ≡ acted act (table_of E) k)
        (λ m p w. p w ∙ sym s) (way S a b) (K.right_way k a b e f))
        (λ s. all_map (λ m. moves m k ≡ true → ⊥) (λ m. moves m k ≡ true → says m k ≡ acted act (table_of E) k)
        (λ m p w. absurd (p w)) (way S a b) (no_transfer H S k (K.one k) x isHost s a b e f))
        (changes k));
    answered = (right, K.answered);
    once = (
      not_again request E letter.undone
          (all_map (λ f. f.host ≡ x → f.answer ≤ (S x).acknowledged f.request.from + length ((S x).waiting f.request.from))
          (λ f. f.host ≡ x → f.request.from ≡ l.from → f.answer < next (S x) l.from)
          (λ f told p q.
          let a : (S x).acknowledged f.request.from ≡ (S x).acknowledged l.from = ap (S x).acknowledged q in
          let b : length ((S x).waiting f.request.from) ≡ length ((S x).waiting l.from) = ap (λ (z : Address). length ((S x).waiting z)) q in
          let c = told p in
          omega (arith, a, b, c)) E (K.local x isHost).told),
      K.once,
    );
  }
    where
      cell : (a b : Address) → among a H ≡ true → among b H ≡ true → Cell S M C (at x answering S) M C a b
      cell a b e f = freed_cell H S x l there strange answering refl
          (λ z w. at_other l.from ((S x).waiting l.from ++ (answer act ∷ [])) (S x).waiting z (among_not z l.from H w strange))
          (λ z. refl) (λ z. refl) a b e f
