-- Laws of the module `constraint`.
pub mod Values
pub mod Steps
