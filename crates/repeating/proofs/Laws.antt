-- The places of all waiting messages, in the order in which they are written down, hold the datagrams that the definition sends again.
-- Assumes nothing.
use mathlib.Core.Path.{◌≡◌, refl, sym, ap, ap₂, ◌∙◌}
use mathlib.Core.List.{List, [], ◌∷◌, ◌++◌, map, map-map, map-append, append-nil, append_assoc}
use Prim.Native.Nat.{ℕ, zero, suc, ◌+◌, ◌-◌, ◌≤◌, ◌<◌}
use native.Mathlib.Omega.{arith}
use lib.ListN.{length, take}
use Rattle.message.specs.Message.{Address, Body, message}
use Rattle.message.specs.Table.{written}
use Rattle.delivery.specs.Memory.{capacity}
use Rattle.std.specs.Prelude.{Result, Ok, Err}
use Rattle.std.specs.Result.{result_unwrap_or}
use Rattle.limits.specs.declared.NoRoom.{NoRoom}
use Rattle.resending.specs.Answers.{Letter, letter_at, letter_to, letters_to, letters, AfterAll}
use Rattle.resending.proofs.Laws.{all_fits}
use Rattle.protocol.specs.State.{Host}
use Rattle.protocol.specs.Delivery.{Packet, numbered_from}
use Rattle.protocol.specs.Retransmit.{to_all}
use Rattle.hosts.specs.declared.State.{State}
use Rattle.hosts.specs.Memory.{Memory, memory, name_at}
use Rattle.hosts.specs.Says.{firsts, datagrams}
use Rattle.hosts.specs.Keeps.{Core}
use Rattle.hosts.proofs.Core.{name_is}
use Rattle.repeating.specs.Answers.{AfterRepeat}

-- ---- one peer

module _ (name_lens names : List ℕ) (w : ℕ) where
  -- a letter as the datagram that is handed out
  abbrev addressed : Letter → Packet
  addressed l = record { to = name_at name_lens names w (l.mark - 1); bytes = l.bytes }

  -- what waits for peer i, whose address is a
  to_one : (i : ℕ) (a : Address) → name_at name_lens names w i ≡ a → (x : ℕ) (l : List Body)
      → map addressed (map (letter_to i) (datagrams x a l)) ≡ numbered_from x a l
  to_one i a e x [] = refl
  to_one i a e x (b ∷ l) =
      let z : suc i - 1 ≡ i = omega arith in
      ap₂ (λ (u : Address) (t : List Packet). record { to = u; bytes = written (message x a b) } ∷ t) (ap (name_at name_lens names w) z ∙ e)
      (to_one i a e (suc x) l)

-- ---- one peer after the other

to_snoc : (h : Host) (l : List Address) (a : Address)
    → to_all h (l ++ (a ∷ [])) ≡ to_all h l ++ numbered_from (h.acknowledged a + 1) a (h.waiting a)
to_snoc h [] a = append-nil (numbered_from (h.acknowledged a + 1) a (h.waiting a))
to_snoc h (b ∷ l) a =
    let f = numbered_from (h.acknowledged b + 1) b (h.waiting b) in
    ap (λ (t : List Packet). f ++ t) (to_snoc h l a)
    ∙ sym (append_assoc f (to_all h l) (numbered_from (h.acknowledged a + 1) a (h.waiting a)))

module _ (m : Memory) (k : State) (h : Host) (C : Core m k h) where
  to_firsts : (n : ℕ) → n ≤ k.peers → map (addressed m.name_lens m.names k.width) (letters n C.P) ≡ to_all h (firsts C.N n)
  to_firsts zero p = refl
  to_firsts (suc n) p =
      let q : n < k.peers = omega arith in
      let a = C.N n in
      let g = addressed m.name_lens m.names k.width in
      let x : suc (h.acknowledged a) ≡ h.acknowledged a + 1 = omega arith in
      let one : map g (letters_to C.P n) ≡ numbered_from (h.acknowledged a + 1) a (h.waiting a) =
      ap (λ (l : List (List ℕ)). map g (map (letter_to n) l)) (C.says.waiting_is n q)
      ∙ to_one m.name_lens m.names k.width n a (name_is m k h C n q) (suc (h.acknowledged a)) (h.waiting a)
      ∙ ap (λ (y : ℕ). numbered_from y a (h.waiting a)) x in
      map-append g (letters n C.P) (letters_to C.P n)
      ∙ ap₂ (λ (s t : List Packet). s ++ t) (to_firsts n (omega arith)) one
      ∙ sym (to_snoc h (firsts C.N n) a)

-- ---- what was written down

-- n places, or none; but a list with a place for each waiting message has room for all
pub repeated : {counts places : List ℕ} {k : State} {out out' : List ℕ} (r : Result ℕ NoRoom) → capacity places ≤ length out
    → AfterAll counts places k.peers out r out' → AfterRepeat counts places k out (Ok (result_unwrap_or r 0)) out'
repeated {counts} {places} {k} {out' = out'} (Ok n) l A = record {
  is = (
    A.is.0,
    λ lows owners keys slots lens values name_lens names mail h C.
        let m = memory lows owners keys slots lens values name_lens names counts places mail in
        let g = addressed name_lens names k.width in
        sym (map-map g (letter_at places mail k.size) (take n out'))
        ∙ ap (map g) (A.is.1 mail k.size C.P C.post_kept)
        ∙ to_firsts m k h C k.peers (omega arith)
        ∙ ap (to_all h) C.says.peers_are,
  );
}
repeated (Err e) l A = record {
  is = (omega arith, λ lows owners keys slots lens values name_lens names mail h C. absurd (all_fits C.post_kept l A));
}
