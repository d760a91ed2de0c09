-- Definitions that contracts of `link` use; no promise names them.
pub mod Trees
