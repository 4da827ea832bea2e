pub mod Following
pub mod Theorem
