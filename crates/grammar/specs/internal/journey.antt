-- Definitions that contracts of `journey` use; no promise names them.
pub mod Parts
