-- What holds between two hosts: all messages ever sent from one to the other are transfers, each in its place, and what is acknowledged, received
-- and carried out are ever shorter beginnings of them.
-- Assumes nothing.
use mathlib.Core.Path.{◌≡◌, sym, ap, ◌∙◌, subst}
use mathlib.Core.Bool.{true, false}
use mathlib.Core.List.{List, [], ◌∷◌, ◌++◌, append_assoc, append-nil}
use mathlib.Core.Option.{none, some}
use Prim.Native.Nat.{ℕ, suc, ◌+◌, ◌-◌, ◌≤◌}
use native.Mathlib.Omega.{arith}
use lib.ListN.{length, take, drop, length-append, length-drop, take-append-drop}
use lib.Dec.{leb}
use Rattle.limits.specs.Limits.{entries_limit}
use Rattle.keys.specs.declared.Bound.{Bound}
use Rattle.keys.specs.Bound.{below, holds}
use Rattle.format.specs.Format.{Entry, Good}
use Rattle.message.specs.Message.{Body, delegate}
use Rattle.message.specs.Table.{body, body_value}
use Rattle.protocol.specs.Records.{look}
use Rattle.protocol.specs.Process.{any_long}
use Rattle.world.specs.Events.{nth}
use Rattle.world.proofs.Lists.{All, all_append, all_take, all_right, take_append, drop_append, take_nth, nth_less, drop_nth, drop_drop}

-- a transfer that its recipient cannot refuse: the range is not empty, there are few entries, their values are short and their keys in the range
pub record Fair (b : Body) : Type 0 where
  pub lo : Bound
  pub hi : Bound
  pub entries : List Entry
  pub is : b ≡ delegate lo hi entries
  pub range : below lo hi ≡ true
  pub few : leb entries_limit (length entries) ≡ false
  pub short : any_long entries ≡ false
  pub inside : (k : ℕ) → holds lo hi k ≡ false → look k entries ≡ none
  pub good : Good body (body_value (delegate lo hi entries))

-- M were made and C carried out; w wait, of which a were acknowledged before; r were received, R is in the recipient's room
pub record Link (M C w : List Body) (a r : ℕ) (R : List Body) : Type 0 where
  pub waits : w ≡ drop a M
  pub order : a ≤ r
  pub known : r ≤ length M
  pub done : C ++ R ≡ take r M
  pub fair : All Fair M

module _ {M C w : List Body} {a r : ℕ} {R : List Body} (K : Link M C w a r R) where
  -- what is on its way
  pub link_way : R ++ drop (r - a) w ≡ R ++ drop r M
  link_way = ap (λ (l : List Body). R ++ l)
      (ap (λ (l : List Body). drop (r - a) l) K.waits ∙ drop_drop (r - a) a r M (omega (arith, K.order)))

  pub link_made : M ≡ C ++ (R ++ drop (r - a) w)
  link_made =
      sym (take-append-drop r M) ∙ ap (λ (l : List Body). l ++ drop r M) (sym K.done) ∙ append_assoc C R (drop r M) ∙ ap (λ (l : List Body). C ++ l) (sym link_way)

  -- as many were sent as are acknowledged or wait
  pub link_count : a + length w ≡ length M
  link_count = let e : length w ≡ length (drop a M) = ap length K.waits in omega (arith, e, length-drop a M, K.order, K.known)

  -- one more was made
  pub link_more : (b : Body) → Fair b → Link (M ++ (b ∷ [])) C (w ++ (b ∷ [])) a r R
  link_more b f = record {
    waits = ap (λ (l : List Body). l ++ (b ∷ [])) K.waits ∙ sym (drop_append a M (b ∷ []) (omega (arith, K.order, K.known)));
    order = K.order;
    known = omega (arith, K.known, length-append M (b ∷ []));
    done = K.done ∙ sym (take_append r M (b ∷ []) K.known);
    fair = all_append Fair M (b ∷ []) K.fair (f, tt);
  }

  -- n have arrived
  pub link_arrived : (n : ℕ) → a ≤ n → n ≤ r → Link M C (drop (n - a) w) n r R
  link_arrived n p q = record {
    waits = ap (λ (l : List Body). drop (n - a) l) K.waits ∙ drop_drop (n - a) a n M (omega (arith, p));
    order = q;
    known = K.known;
    done = K.done;
    fair = K.fair;
  }

module _ {M C w : List Body} {a r : ℕ} where
  -- the next is taken into the room, which was free
  pub link_took : Link M C w a r [] → (b : Body) → nth r M ≡ some b → Link M C w a (suc r) (b ∷ [])
  link_took K b e = record {
    waits = K.waits;
    order = omega (arith, K.order);
    known = omega (arith, nth_less r M b e);
    done = ap (λ (l : List Body). l ++ (b ∷ [])) (sym (append-nil C) ∙ K.done) ∙ sym (take_nth r M b e);
    fair = K.fair;
  }

  pub way_took : Link M C w a r [] → (b : Body) → nth r M ≡ some b → (b ∷ []) ++ drop (suc r - a) w ≡ [] ++ drop (r - a) w
  way_took K b e =
      link_way (link_took K b e) ∙ sym (drop_nth r M b e) ∙ sym (link_way K)

  -- what is in the room is carried out
  pub link_carried : (b : Body) → Link M C w a r (b ∷ []) → Link M (C ++ (b ∷ [])) w a r []
  link_carried b K = record { waits = K.waits; order = K.order; known = K.known; done = append-nil (C ++ (b ∷ [])) ∙ K.done; fair = K.fair }

  -- what is in the room is a transfer
  pub link_room : (b : Body) → Link M C w a r (b ∷ []) → Fair b
  link_room b K = (all_right Fair C (b ∷ []) (subst (λ (l : List Body). All Fair l) (sym K.done) (all_take Fair r M K.fair))).0
