-- Definitions that contracts of the code use; no promise names them.
pub mod Rules
pub mod numbered
