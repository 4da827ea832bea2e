-- `rooms::shard` meets its contract.
-- Assumes nothing.
use mathlib.Core.Path.{refl, sym}
use Rattle.std.specs.Prelude.{None}
use Rattle.rooms.proofs.Bodies.{vacant}
use Rattle.rooms.proofs.Shards.{shard_as, shard_nobody, shard_stays, shard_full, shard_bounds}
use Rattle.rooms.proofs.shard.Goals as goal

pub returns-in_default : goal.returns-in_default
returns-in_default c =
    shard_nobody c.in_default.ensures

pub returns-then-not-movable : goal.returns-then-not-movable
returns-then-not-movable c =
    shard_stays c.movable.ensures c.if-not-movable.true

pub returns-in_err-place : goal.returns-in_err-place
returns-in_err-place c =
    rw c.from_residual.ensures (shard_full c.movable.ensures c.if-not-movable.false c.in-Some.ensures (vacant None c.in_err-place.ensures) refl)

pub returns-then-not-fits : goal.returns-then-not-fits
returns-then-not-fits c =
    shard_as (sym c.if-not-fits.true)
    (shard_bounds c.movable.ensures c.if-not-movable.false c.in-Some.ensures (vacant _ c.in_ok-place.ensures) refl c.fits.ensures)

pub returns : goal.returns
returns c =
    shard_as (sym c.if-not-fits.false)
    (shard_bounds c.movable.ensures c.if-not-movable.false c.in-Some.ensures (vacant _ c.in_ok-place.ensures) refl c.fits.ensures)
