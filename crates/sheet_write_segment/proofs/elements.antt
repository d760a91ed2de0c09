-- Laws of the module `elements`.
pub mod Fields
pub mod Whole
pub mod Writing
