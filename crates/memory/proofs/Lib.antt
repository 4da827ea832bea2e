-- `Parts` has the laws of bytes written into a longer string, for this crate and those that rest on it.
pub mod Parts
pub mod Copies
