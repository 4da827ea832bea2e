pub mod Message
pub mod Table
pub mod View
pub mod Answers
pub mod Given
