-- Definitions that contracts of `element` use; no promise names them.
pub mod Profile
