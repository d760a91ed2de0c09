-- Laws of the module `row`.
pub mod Held
pub mod Rows
pub mod Whole
