pub mod Number
pub mod Format
pub mod Place
pub mod Answers
