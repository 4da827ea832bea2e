pub mod Decided
pub mod Laws
