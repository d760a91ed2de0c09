-- Definitions that contracts of `times` use; no promise names them.
pub mod Repeat
