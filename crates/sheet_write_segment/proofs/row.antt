-- Laws of the module `row`.
pub mod Rows
pub mod Tree
