-- Laws of the module `element`.
pub mod Names
pub mod Windows
