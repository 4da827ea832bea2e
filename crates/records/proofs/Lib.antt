-- `Laws` has what callers may go by. The others are for the proofs of this crate and of those that work on the same memory (`stores`,
-- `removals`, `counts`, `ranges`, `entries`, `audits`): `Tables` for tables and their entries, `Slotted` for the permutation of slots and the
-- bytes in them, `Ranges` for the places of the keys in a range, `Stores` for a list of entries stored, `Lists` for a table and its list.
pub mod Laws
pub mod Lists
pub mod Ranges
pub mod Slotted
pub mod Stores
pub mod Tables
