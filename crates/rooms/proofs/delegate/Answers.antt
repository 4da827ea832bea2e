-- `rooms::delegate` meets its contract.
-- Assumes nothing.
use Rattle.rooms.proofs.Delegates.{delegate_stranger, delegate_unfit, delegate_long, delegate_bounds, delegate_entries}
use Rattle.rooms.proofs.delegate.Goals as goal

pub returns-in_default : goal.returns-in_default
returns-in_default c = delegate_stranger c.in_default.ensures

pub returns-then-not-fine : goal.returns-then-not-fine
returns-then-not-fine c =
    delegate_unfit c.in-Some.ensures c.fine.ensures c.if-not-fine.true

pub returns-then-not-columns : goal.returns-then-not-columns
returns-then-not-columns c =
    delegate_long c.in-Some.ensures c.fine.ensures c.if-not-fine.false
    c.columns.ensures c.columns.auto.ks c.columns.auto.ats c.columns.auto.ls c.if-not-columns.true

pub returns-then-not-fits : goal.returns-then-not-fits
returns-then-not-fits c =
    delegate_bounds c.in-Some.ensures c.fine.ensures c.if-not-fine.false
    c.columns.ensures c.if-not-columns.false
    c.fits.ensures c.if-not-fits.true

pub returns : goal.returns
returns c =
    delegate_entries c.in-Some.ensures c.fine.ensures c.if-not-fine.false
    c.columns.ensures c.if-not-columns.false
    c.fits.ensures c.if-not-fits.false c.left.ensures
