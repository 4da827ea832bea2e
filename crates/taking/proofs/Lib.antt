pub mod Seats
pub mod Laws
