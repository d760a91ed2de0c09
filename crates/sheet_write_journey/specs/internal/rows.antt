-- Definitions that contracts of `rows` use; no promise names them.
pub mod Widths
