pub mod Journey
pub mod Promised
pub mod Faster
pub mod Samples
pub mod Desk
