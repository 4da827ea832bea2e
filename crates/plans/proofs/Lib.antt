-- For this crate's proofs alone: `Part` and `Change` argue that a change keeps the map, `Search` finds a bound among the bounds, and `Range` asks
-- whose a whole range is.
mod Part
mod Change
mod Search
mod Range
