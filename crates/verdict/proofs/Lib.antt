pub mod Sizes
pub mod Accepted
pub mod Exits
