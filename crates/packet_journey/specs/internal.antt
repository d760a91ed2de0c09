-- Definitions that contracts of the code use; no promise names them.
pub mod Head
pub mod constraint_bytes
pub mod point_bytes
