-- Definitions that contracts of `elements` use; no promise names them.
pub mod Writing
