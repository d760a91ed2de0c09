-- Definitions that contracts of `constraint` use; no promise names them.
pub mod Numbers
