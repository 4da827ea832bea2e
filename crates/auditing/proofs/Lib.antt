pub mod Rows
pub mod Letters
pub mod Hosts
mod Laws
