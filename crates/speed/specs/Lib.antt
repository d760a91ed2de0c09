pub mod Speed
pub mod Run
pub mod Standing
pub mod Faster
pub mod Desk
pub mod internal
