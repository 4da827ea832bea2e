pub mod Numbers
pub mod Clear
pub mod Reading
pub mod Listing
