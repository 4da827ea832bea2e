-- `grants::edit` meets its contract. The cut and the two insertions, one after the other, are `edited`.
-- Assumes nothing.
use mathlib.Core.Path.{◌≡◌, ap, ap₂, ◌∙◌}
use mathlib.Core.List.{List}
use Prim.Native.Nat.{ℕ, ◌+◌, ◌-◌}
use Rattle.columns.specs.Column.{without}
use Rattle.bounding.specs.Edit.{put}
use Rattle.bounding.proofs.Edited.{edited, edited_is}
use Rattle.grants.proofs.edit.Goals as goal

pub returns : goal.returns
returns c =
    let a = c.args in
    let p = a.plan in
    let k : ℕ = p.first + (a.n - p.last) in
    let cut = c.cut in
    let high = c.put-more in
    let low = c.put in
    let e₁ : cut.new.column ≡ without a.column.now a.n p.first p.last = (cut.ensures.done c.requires.ordered c.requires.within c.requires.fits).1 in
    let e₂ : high.new.column ≡ put p.high (without a.column.now a.n p.first p.last) k p.first a.high = high.ensures.1 ∙ ap (λ (l : List ℕ). put p.high l k p.first a.high) e₁ in
    let e₃ : low.new.column ≡ edited a.column.now a.n p a.low a.high = low.ensures.1 ∙ ap₂ (λ (l : List ℕ) (m : ℕ). put p.low l m p.first a.low) e₂ high.ensures.0 in
    rw e₃ (edited_is a.column.now a.n p a.low a.high c.requires)
