-- `numbers::store` meets its contract.
-- Assumes nothing.
use mathlib.Core.List.{[], ◌∷◌}
use Rattle.numbers.proofs.Laws.{still, all, stored, put_length}
use native.Mathlib.Omega.{arith}
use Rattle.numbers.proofs.store.Goals as goal

pub returns-then-numbers-lt-WORDS : goal.returns-then-numbers-lt-WORDS
returns-then-numbers-lt-WORDS c = λ h. absurd (omega (arith, h, c.if-numbers-lt-WORDS.true))

pub bounds-numbers-1 : goal.bounds-numbers-1
bounds-numbers-1 c =
    let k = c.args.k in still c.args.numbers.now (k.me ∷ []) 1 (omega (arith, c.if-numbers-lt-WORDS.false))

pub bounds-numbers-2 : goal.bounds-numbers-2
bounds-numbers-2 c =
    let k = c.args.k in still c.args.numbers.now (k.me ∷ k.hosts ∷ []) 2 (omega (arith, c.if-numbers-lt-WORDS.false))

pub bounds-numbers-3 : goal.bounds-numbers-3
bounds-numbers-3 c =
    let k = c.args.k in still c.args.numbers.now (k.me ∷ k.hosts ∷ k.peers ∷ []) 3 (omega (arith, c.if-numbers-lt-WORDS.false))

pub bounds-numbers-4 : goal.bounds-numbers-4
bounds-numbers-4 c =
    let k = c.args.k in still c.args.numbers.now (k.me ∷ k.hosts ∷ k.peers ∷ k.width ∷ []) 4 (omega (arith, c.if-numbers-lt-WORDS.false))

pub bounds-numbers-5 : goal.bounds-numbers-5
bounds-numbers-5 c =
    let k = c.args.k in still c.args.numbers.now (k.me ∷ k.hosts ∷ k.peers ∷ k.width ∷ k.size ∷ []) 5 (omega (arith, c.if-numbers-lt-WORDS.false))

pub bounds-numbers-6 : goal.bounds-numbers-6
bounds-numbers-6 c =
    let k = c.args.k in still c.args.numbers.now (k.me ∷ k.hosts ∷ k.peers ∷ k.width ∷ k.size ∷ k.bounds ∷ []) 6 (omega (arith, c.if-numbers-lt-WORDS.false))

pub bounds-numbers-7 : goal.bounds-numbers-7
bounds-numbers-7 c =
    let k = c.args.k in still c.args.numbers.now (k.me ∷ k.hosts ∷ k.peers ∷ k.width ∷ k.size ∷ k.bounds ∷ k.entries ∷ []) 7 (omega (arith, c.if-numbers-lt-WORDS.false))

pub bounds-numbers-8 : goal.bounds-numbers-8
bounds-numbers-8 c =
    let k = c.args.k in still c.args.numbers.now (k.me ∷ k.hosts ∷ k.peers ∷ k.width ∷ k.size ∷ k.bounds ∷ k.entries ∷ k.len ∷ []) 8 (omega (arith, c.if-numbers-lt-WORDS.false))

pub bounds-numbers-9 : goal.bounds-numbers-9
bounds-numbers-9 c =
    let k = c.args.k in still c.args.numbers.now (k.me ∷ k.hosts ∷ k.peers ∷ k.width ∷ k.size ∷ k.bounds ∷ k.entries ∷ k.len ∷ k.from ∷ []) 9 (omega (arith, c.if-numbers-lt-WORDS.false))

pub bounds-numbers-10 : goal.bounds-numbers-10
bounds-numbers-10 c =
    let k = c.args.k in still c.args.numbers.now (k.me ∷ k.hosts ∷ k.peers ∷ k.width ∷ k.size ∷ k.bounds ∷ k.entries ∷ k.len ∷ k.from ∷ k.transfers ∷ []) 10 (omega (arith, c.if-numbers-lt-WORDS.false))

pub bounds-numbers-11 : goal.bounds-numbers-11
bounds-numbers-11 c =
    let k = c.args.k in still c.args.numbers.now (k.me ∷ k.hosts ∷ k.peers ∷ k.width ∷ k.size ∷ k.bounds ∷ k.entries ∷ k.len ∷ k.from ∷ k.transfers ∷ k.turns ∷ []) 11 (omega (arith, c.if-numbers-lt-WORDS.false))

pub shape_of-numbers : goal.shape_of-numbers
shape_of-numbers c =
    let k = c.args.k in put_length c.args.numbers.now 0 (all k c.args.place)

pub returns : goal.returns
returns c = stored c.args.numbers.now c.args.k c.args.place
