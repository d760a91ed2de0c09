-- Laws of the module `point`.
pub mod Looping
pub mod Places
