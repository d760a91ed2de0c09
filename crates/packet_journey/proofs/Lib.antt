pub mod Looping
pub mod Places
