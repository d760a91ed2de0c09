-- Definitions that contracts of `head` use; no promise names them.
pub mod Widths
