-- Definitions that contracts of the code use; no promise names them.
pub mod Numbered
pub mod Steps
pub mod Verdict
pub mod frame
