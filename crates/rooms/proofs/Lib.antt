pub mod Refused
pub mod Shards
pub mod Delegates
pub mod Bodies
