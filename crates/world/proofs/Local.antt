-- What holds of one host goes on holding when it takes a step.
-- Assumes nothing.
use mathlib.Core.Path.{◌≡◌, refl, sym, ap, ◌∙◌, subst}
use mathlib.Core.Bool.{Bool, true, false, cond, false≢true}
use mathlib.Core.List.{List, [], ◌∷◌, ◌++◌}
use mathlib.Core.Option.{none, some-injective, none-ne-some}
use mathlib.Core.Logic.{inr}
use Prim.Native.Nat.{ℕ, zero, suc, ◌+◌, ◌-◌, ◌≤◌, ◌<◌}
use native.Mathlib.Omega.{arith}
use lib.ListN.{length, drop, length-append, length-drop}
use Rattle.limits.specs.Limits.{bytes_max}
use Rattle.format.specs.Number.{numbers}
use Rattle.format.specs.Format.{Entry, Above}
use Rattle.message.specs.Message.{Address, Body, get, set, reply, redirect, shard, delegate, message}
use Rattle.message.specs.Table.{Valid}
use Rattle.decoding.specs.Decode.{same}
use Rattle.decoding.proofs.Decided.{same_true, same_refl}
use Rattle.protocol.specs.Address.{among, at}
use Rattle.protocol.specs.Owners.{Owners, owner_of}
use Rattle.protocol.specs.State.{Host, Letter, took, done}
use Rattle.protocol.specs.Delivery.{next, posted, confirmed}
use Rattle.world.specs.World.{Executed}
use Rattle.world.proofs.Lists.{All, all_map}
use Rattle.world.proofs.Invariant.{Kept, Told, Outgoing, Lettered, Local}

-- ---- messages that go out

module _ (H : List Address) (x : Address) where
  -- what was true stays true when one more request is carried out
  pub told_more : (E : List Executed) (e : Executed) (c : Address) (n : ℕ) (b : Body) → Told H E x c n b → Told H (e ∷ E) x c n b
  told_more E e c n (get k) T = tt
  told_more E e c n (set k v) T = tt
  told_more E e c n (reply k v) T = (T.0, (inr T.1.0, T.1.1, T.1.2, T.1.3, T.1.4))
  told_more E e c n (redirect k a) T = T
  told_more E e c n (shard lo hi a) T = tt
  told_more E e c n (delegate lo hi es) T = tt

  pub outgoing_more : (E : List Executed) (e : Executed) (c : Address) (n : ℕ) (l : List Body) → Outgoing H E x c n l → Outgoing H (e ∷ E) x c n l
  outgoing_more E e c n [] O = tt
  outgoing_more E e c n (b ∷ l) O = (O.0, told_more E e c n b O.1, outgoing_more E e c (suc n) l O.2)

module _ (H : List Address) (E : List Executed) (x c : Address) where
  -- the first so many are no longer waited for
  pub outgoing_drop : (i n m : ℕ) (l : List Body) → m ≡ n + i → Outgoing H E x c n l → Outgoing H E x c m (drop i l)
  outgoing_drop zero n m l e O = let u : n ≡ m = omega (arith, e) in subst (λ (j : ℕ). Outgoing H E x c j l) u O
  outgoing_drop (suc i) n m [] e O = tt
  outgoing_drop (suc i) n m (b ∷ l) e O = outgoing_drop i (suc n) m l (omega (arith, e)) O.2

  pub outgoing_snoc : (n m : ℕ) (l : List Body) (b : Body) → m ≡ n + length l → Outgoing H E x c n l → Valid (message m c b) → Told H E x c m b
      → Outgoing H E x c n (l ++ (b ∷ []))
  outgoing_snoc n m [] b e O v T =
      let u : m ≡ n = omega (arith, e) in
      (subst (λ (j : ℕ). Valid (message j c b)) u v, subst (λ (j : ℕ). Told H E x c j b) u T, tt)
  outgoing_snoc n m (d ∷ l) b e O v T = (O.0, O.1, outgoing_snoc (suc n) m l b (omega (arith, e)) O.2 v T)

-- ---- the kinds of change

module _ {H : List Address} {E : List Executed} {x : Address} {h : Host} (L : Local H E x h) where
  -- a message was taken from a, the next one of a's
  module _ (a : Address) (n : ℕ) (b : Body) (peers : List Address) (new : n ≡ suc (h.received a)) (valid : Valid (message n x b))
      (short : length a < bytes_max) (All-stay : (c : Address) → among c h.peers ≡ true → among c peers ≡ true) (joins : among a peers ≡ true) where
    -- no count of messages received falls
    pub received_rises : (c : Address) → h.received c ≤ at a n h.received c
    received_rises c = go (same c a) refl
      where
        go : (t : Bool) → same c a ≡ t → h.received c ≤ cond t n (h.received c)
        go true e = let u : h.received c ≡ h.received a = ap h.received (same_true c a e) in omega (arith, u, new)
        go false e = omega arith

    lettered : Lettered E x (took a n b peers (at a n h.received) h) (record { from = a; number = n; body = b })
    lettered = record {
      last = sym (rw (same_refl a) refl);
      valid = valid;
      known = joins;
      short = short;
      undone = all_map (λ e. e.host ≡ x → e.request.number ≤ h.received e.request.from)
          (λ e. e.host ≡ x → e.request.from ≡ a → e.request.number < n)
          (λ e f p q. let u : h.received e.request.from ≡ h.received a = ap h.received q in omega (arith, f p, u, new)) E L.done;
    }

    pub local_took : Local H E x (took a n b peers (at a n h.received) h)
    local_took = record {
      me_is = L.me_is;
      hosts_are = L.hosts_are;
      owner_in = L.owner_in;
      hosts_known = λ c e. All-stay c (L.hosts_known c e);
      waits_known = λ c n. All-stay c (L.waits_known c n);
      sorted = L.sorted;
      kept = L.kept;
      room_is = λ l e. subst (λ (m : Letter). Lettered E x (took a n b peers (at a n h.received) h) m) (some-injective _ l e) lettered;
      done = all_map (λ e. e.host ≡ x → e.request.number ≤ h.received e.request.from)
          (λ e. e.host ≡ x → e.request.number ≤ at a n h.received e.request.from)
          (λ e f p. let u = received_rises e.request.from in omega (arith, f p, u)) E L.done;
      told = L.told;
      numbered = L.numbered;
      outgoing = L.outgoing;
    }

  -- messages up to the number n have arrived at a
  module _ (a : Address) (n : ℕ) (more : h.acknowledged a < n) (small : n < numbers) where
    pub local_confirmed : Local H E x (confirmed a n h)
    local_confirmed = record {
      me_is = L.me_is;
      hosts_are = L.hosts_are;
      owner_in = L.owner_in;
      hosts_known = L.hosts_known;
      waits_known = λ c n. L.waits_known c (λ e. n (shorter c (same c a) refl e));
      sorted = L.sorted;
      kept = L.kept;
      room_is = λ l e. let R = L.room_is l e in record { last = R.last; valid = R.valid; known = R.known; short = R.short; undone = R.undone };
      done = L.done;
      told = all_map (λ e. e.host ≡ x → e.answer ≤ h.acknowledged e.request.from + length (h.waiting e.request.from))
          (λ e. e.host ≡ x → e.answer ≤ (confirmed a n h).acknowledged e.request.from + length ((confirmed a n h).waiting e.request.from))
          (λ e f p. rises e.request.from (same e.request.from a) refl e.answer (f p)) E L.told;
      numbered = λ c. stays c (same c a) refl (L.numbered c);
      outgoing = λ c. rest c (same c a) refl (L.outgoing c);
    }
      where
        drop_none : (i : ℕ) → ◌≡◌ {A = List Body} (drop i []) []
        drop_none zero = refl
        drop_none (suc i) = refl

        shorter : (c : Address) (t : Bool) → same c a ≡ t → h.waiting c ≡ [] → cond t (drop (n - h.acknowledged a) (h.waiting a)) (h.waiting c) ≡ []
        shorter c true e q =
            ap (λ (l : List Body). drop (n - h.acknowledged a) l) (ap h.waiting (sym (same_true c a e)) ∙ q) ∙ drop_none (n - h.acknowledged a)
        shorter c false e q = q

        rises : (c : Address) (t : Bool) → same c a ≡ t → (y : ℕ) → y ≤ h.acknowledged c + length (h.waiting c)
            → y ≤ cond t n (h.acknowledged c) + length (cond t (drop (n - h.acknowledged a) (h.waiting a)) (h.waiting c))
        rises c true e y f =
            let q : c ≡ a = same_true c a e in
            let u : h.acknowledged c ≡ h.acknowledged a = ap h.acknowledged q in
            let v : length (h.waiting c) ≡ length (h.waiting a) = ap (λ (z : Address). length (h.waiting z)) q in
            omega (arith, f, u, v, more, length-drop (n - h.acknowledged a) (h.waiting a))
        rises c false e y f = f

        stays : (c : Address) (t : Bool) → same c a ≡ t → h.acknowledged c + length (h.waiting c) < numbers
            → cond t n (h.acknowledged c) + length (cond t (drop (n - h.acknowledged a) (h.waiting a)) (h.waiting c)) < numbers
        stays c true e f =
            let q : c ≡ a = same_true c a e in
            let u : h.acknowledged c ≡ h.acknowledged a = ap h.acknowledged q in
            let v : length (h.waiting c) ≡ length (h.waiting a) = ap (λ (z : Address). length (h.waiting z)) q in
            omega (arith, f, u, v, more, small, length-drop (n - h.acknowledged a) (h.waiting a))
        stays c false e f = f

        rest : (c : Address) (t : Bool) → same c a ≡ t → Outgoing H E x c (suc (h.acknowledged c)) (h.waiting c)
            → Outgoing H E x c (suc (cond t n (h.acknowledged c))) (cond t (drop (n - h.acknowledged a) (h.waiting a)) (h.waiting c))
        rest c true e O =
            let q : c ≡ a = same_true c a e in
            let u : h.acknowledged c ≡ h.acknowledged a = ap h.acknowledged q in
            subst (λ (l : List Body). Outgoing H E x c (suc n) (drop (n - h.acknowledged a) l)) (ap h.waiting q)
            (outgoing_drop H E x c (n - h.acknowledged a) (suc (h.acknowledged c)) (suc n) (h.waiting c) (omega (arith, u, more)) O)
        rest c false e O = O

  -- the message in the room is done with, and map and table are other ones
  pub local_done : (o : Owners) (es : List Entry) (t : ℕ) → ((k : ℕ) → among (owner_of o k) H ≡ true) → Above 0 es → All Kept es
      → Local H E x (done o es t h)
  local_done o es t owner_in sorted kept = record {
    me_is = L.me_is;
    hosts_are = L.hosts_are;
    owner_in = owner_in;
    hosts_known = L.hosts_known;
    waits_known = L.waits_known;
    sorted = sorted;
    kept = kept;
    room_is = λ l e. absurd (none-ne-some l e);
    done = L.done;
    told = L.told;
    numbered = L.numbered;
    outgoing = L.outgoing;
  }

  -- one more message waits for c; the room is free
  module _ (free : h.room ≡ none) (c : Address) (b : Body) (small : next h c < numbers) (valid : Valid (message (next h c) c b))
      (place : among c h.peers ≡ true) where
    still_known : (a : Address) → ((posted c b h).waiting a ≡ [] → ⊥) → among a h.peers ≡ true
    still_known a n = go (same a c) refl n
      where
        go : (t : Bool) → same a c ≡ t → (cond t (h.waiting c ++ (b ∷ [])) (h.waiting a) ≡ [] → ⊥) → among a h.peers ≡ true
        go true e m = subst (λ (z : Address). among z h.peers ≡ true) (sym (same_true a c e)) place
        go false e m = L.waits_known a m

    more_waits : (d : Address) → h.acknowledged d + length (h.waiting d) ≤ (posted c b h).acknowledged d + length ((posted c b h).waiting d)
    more_waits d = go (same d c) refl
      where
        go : (t : Bool) → same d c ≡ t → h.acknowledged d + length (h.waiting d) ≤ h.acknowledged d + length (cond t (h.waiting c ++ (b ∷ [])) (h.waiting d))
        go true e =
            let v : length (h.waiting d) ≡ length (h.waiting c) = ap (λ (z : Address). length (h.waiting z)) (same_true d c e) in
            omega (arith, v, length-append (h.waiting c) (b ∷ []))
        go false e = omega arith

    few : (d : Address) → (posted c b h).acknowledged d + length ((posted c b h).waiting d) < numbers
    few d = go (same d c) refl
      where
        go : (t : Bool) → same d c ≡ t → h.acknowledged d + length (cond t (h.waiting c ++ (b ∷ [])) (h.waiting d)) < numbers
        go true e =
            let u : h.acknowledged d ≡ h.acknowledged c = ap h.acknowledged (same_true d c e) in
            omega (arith, u, small, length-append (h.waiting c) (b ∷ []))
        go false e = L.numbered d

    all_out : (F : List Executed) → ((d : Address) → Outgoing H F x d (suc (h.acknowledged d)) (h.waiting d)) → Told H F x c (next h c) b
        → (d : Address) → Outgoing H F x d (suc ((posted c b h).acknowledged d)) ((posted c b h).waiting d)
    all_out F O T d = go (same d c) refl
      where
        go : (t : Bool) → same d c ≡ t → Outgoing H F x d (suc (h.acknowledged d)) (cond t (h.waiting c ++ (b ∷ [])) (h.waiting d))
        go true e =
            subst (λ (z : Address). Outgoing H F x z (suc (h.acknowledged z)) (h.waiting c ++ (b ∷ []))) (sym (same_true d c e))
            (outgoing_snoc H F x c (suc (h.acknowledged c)) (next h c) (h.waiting c) b (omega arith) (O c) valid T)
        go false e = O d

    all_told : (F : List Executed) → All (λ e. e.host ≡ x → e.answer ≤ h.acknowledged e.request.from + length (h.waiting e.request.from)) F
        → All (λ e. e.host ≡ x → e.answer ≤ (posted c b h).acknowledged e.request.from + length ((posted c b h).waiting e.request.from)) F
    all_told F A = all_map (λ e. e.host ≡ x → e.answer ≤ h.acknowledged e.request.from + length (h.waiting e.request.from))
        (λ e. e.host ≡ x → e.answer ≤ (posted c b h).acknowledged e.request.from + length ((posted c b h).waiting e.request.from))
        (λ e f p. let u = more_waits e.request.from in omega (arith, f p, u)) F A

    pub local_posted : Told H E x c (next h c) b → Local H E x (posted c b h)
    local_posted T = record {
      me_is = L.me_is;
      hosts_are = L.hosts_are;
      owner_in = L.owner_in;
      hosts_known = L.hosts_known;
      waits_known = still_known;
      sorted = L.sorted;
      kept = L.kept;
      room_is = λ l e. absurd (none-ne-some l (sym free ∙ e));
      done = L.done;
      told = all_told E L.told;
      numbered = few;
      outgoing = all_out E L.outgoing T;
    }

    -- .. it answers a request that is carried out now
    pub local_answered : (e : Executed) → e.request.from ≡ c → e.request.number ≤ h.received c → e.answer ≡ next h c
        → Told H (e ∷ E) x c (next h c) b → Local H (e ∷ E) x (posted c b h)
    local_answered e from number answer T = record {
      me_is = L.me_is;
      hosts_are = L.hosts_are;
      owner_in = L.owner_in;
      hosts_known = L.hosts_known;
      waits_known = still_known;
      sorted = L.sorted;
      kept = L.kept;
      room_is = λ l q. absurd (none-ne-some l (sym free ∙ q));
      done = ((λ p. let u : h.received e.request.from ≡ h.received c = ap h.received from in omega (arith, u, number)), L.done);
      told = ((λ p. last e.request.from from (same e.request.from c) refl), all_told E L.told);
      numbered = few;
      outgoing = all_out (e ∷ E) (λ d. outgoing_more H x E e d (suc (h.acknowledged d)) (h.waiting d) (L.outgoing d)) T;
    }
      where
        last : (d : Address) → d ≡ c → (t : Bool) → same d c ≡ t → e.answer ≤ h.acknowledged d + length (cond t (h.waiting c ++ (b ∷ [])) (h.waiting d))
        last d q true s =
            let u : h.acknowledged d ≡ h.acknowledged c = ap h.acknowledged q in
            omega (arith, u, answer, length-append (h.waiting c) (b ∷ []))
        last d q false s = absurd (false≢true (sym s ∙ subst (λ (z : Address). same z c ≡ true) (sym q) (same_refl c)))

  -- another host has carried a request out
  pub local_elsewhere : (e : Executed) → (e.host ≡ x → ⊥) → Local H (e ∷ E) x h
  local_elsewhere e n = record {
    me_is = L.me_is;
    hosts_are = L.hosts_are;
    owner_in = L.owner_in;
    hosts_known = L.hosts_known;
    waits_known = L.waits_known;
    sorted = L.sorted;
    kept = L.kept;
    room_is = λ l q. let R = L.room_is l q in record { last = R.last; valid = R.valid; known = R.known; short = R.short; undone = ((λ p w. absurd (n p)), R.undone) };
    done = ((λ p. absurd (n p)), L.done);
    told = ((λ p. absurd (n p)), L.told);
    numbered = L.numbered;
    outgoing = λ c. outgoing_more H x E e c (suc (h.acknowledged c)) (h.waiting c) (L.outgoing c);
  }
