-- `Laws` has the laws of bounds, ranges and their order, for the proofs of this crate and of the crates that rest on it.
pub mod Laws
