pub mod Post
pub mod Memory
pub mod Answers
