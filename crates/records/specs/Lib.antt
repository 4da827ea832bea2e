pub mod Answers
pub mod Inner
pub mod Memory
pub mod Table
