-- Definitions that contracts of `accepted` use; no promise names them.
pub mod Accepted
