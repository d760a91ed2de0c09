pub mod Desk
pub mod Listing
pub mod Names
pub mod internal
pub mod lines
pub mod words
