-- Definitions that contracts of the code use; no promise names them.
pub mod Judging
pub mod numbered
