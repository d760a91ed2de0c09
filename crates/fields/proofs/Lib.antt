pub mod Digits
pub mod Lookup
pub mod Lawful
