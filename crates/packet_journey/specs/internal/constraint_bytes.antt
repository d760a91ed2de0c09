-- Definitions that contracts of `constraint_bytes` use; no promise names them.
pub mod Bytes
