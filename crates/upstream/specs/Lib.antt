pub mod Messages
pub mod Delivery
pub mod Hosts
pub mod View
pub mod Marshalling
pub mod Keys
pub mod Endpoints
