pub mod Desk
pub mod File
pub mod Promised
pub mod Screen
pub mod internal
