-- Laws of the module `journey`.
pub mod Parts
pub mod Tree
pub mod Weighed
pub mod Ends
