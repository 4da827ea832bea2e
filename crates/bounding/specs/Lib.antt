pub mod Edit
