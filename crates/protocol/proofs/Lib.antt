pub mod Addresses
pub mod Whole
pub mod Entries
pub mod Scripts
