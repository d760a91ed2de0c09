-- Definitions that contracts of the code use; no promise names them.
pub mod journey
pub mod link
pub mod rows
pub mod segment
