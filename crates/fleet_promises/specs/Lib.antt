pub mod Faster
pub mod Promised
pub mod Samples
