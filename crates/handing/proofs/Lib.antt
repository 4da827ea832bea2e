pub mod Refused
pub mod Handed
pub mod Steps
