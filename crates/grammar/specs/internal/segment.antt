-- Definitions that contracts of `segment` use; no promise names them.
pub mod Parts
