-- Definitions that contracts of `point_bytes` use; no promise names them.
pub mod Windows
