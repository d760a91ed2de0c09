-- Definitions that contracts of `row` use; no promise names them.
pub mod Row
