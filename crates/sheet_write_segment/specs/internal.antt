-- Definitions that contracts of the code use; no promise names them.
pub mod elements
pub mod head
pub mod row
