pub mod Room
pub mod Laws
pub mod Messages
pub mod Taken
