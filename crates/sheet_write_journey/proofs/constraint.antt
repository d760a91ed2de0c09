-- Laws of the module `constraint`.
pub mod Constraints
