-- `format::short_text` meets its contract.
-- Assumes nothing.
use Rattle.format.proofs.Reading.{string_over}
use Rattle.format.proofs.short_text.Goals as goal

pub returns-then-limit-part : goal.returns-then-limit-part
returns-then-limit-part c =
    let k = c.in_ok-part.ensures.is in
    record { is = string_over _ _ _ _ k.1 c.if-limit-part.true }
