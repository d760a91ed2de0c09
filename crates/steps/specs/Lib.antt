pub mod Steps
pub mod Desk
pub mod internal
