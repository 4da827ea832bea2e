pub mod Memory
pub mod Says
pub mod Limits
pub mod Keeps
pub mod Answers
