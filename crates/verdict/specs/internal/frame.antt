-- Definitions that contracts of `frame` use; no promise names them.
pub mod Framed
