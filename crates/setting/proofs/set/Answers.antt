-- `setting::set` meets its contract.
-- Assumes nothing.
use Rattle.setting.proofs.Laws.{sound_as, too_long, picks, refused}
use Rattle.setting.proofs.set.Goals as goal

pub returns-then-not-sound-clause-is : goal.returns-then-not-sound-clause-is
returns-then-not-sound-clause-is c = too_long (sound_as c.if-not-sound.true c.sound.ensures) c.dropped.ensures

pub settle-requires : goal.settle-requires
settle-requires c = c.sound.ensures.yes c.if-not-sound.false

pub returns-in_default-clause-is : goal.returns-in_default-clause-is
returns-in_default-clause-is c =
    refused (c.sound.ensures.yes c.if-not-sound.false) c.in_default.field-0 (rw (c.view-seen.ensures.counts, c.view-seen.ensures.places) at c.in_default.ensures)
    c.answered.ensures

pub returns-clause-is : goal.returns-clause-is
returns-clause-is c = picks (rw (c.view-seen.ensures.counts, c.view-seen.ensures.places) at c.in-Ok.ensures) c.settle.ensures.is
