-- `Cases` splits on the order of two numbers and `Columns` has the laws of columns, for this crate and those that rest on it.
pub mod Cases
pub mod Columns
