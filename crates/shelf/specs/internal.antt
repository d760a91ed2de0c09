-- Definitions that contracts of the code use; no promise names them.
pub mod Scanning
pub mod Changing
