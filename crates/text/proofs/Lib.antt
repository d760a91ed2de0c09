pub mod Accepted
pub mod Whole
pub mod Desk
pub mod Longer
pub mod Names
