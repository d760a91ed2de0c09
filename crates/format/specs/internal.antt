-- Definitions that contracts of the code use; no promise names them.
pub mod Pass
pub mod Place
pub mod Places
pub mod Tasks
pub mod Ways
