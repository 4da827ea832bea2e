pub mod Sendable
pub mod Answers
pub mod Inner
