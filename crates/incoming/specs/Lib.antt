pub mod Answers
pub mod Handled
