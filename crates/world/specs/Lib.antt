pub mod World
pub mod Events
pub mod Claims
pub mod Single
pub mod Theorem
