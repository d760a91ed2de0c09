pub mod Cards
pub mod Desk
pub mod Lines
pub mod Longer
pub mod Taken
pub mod Whole
