-- Laws of the module `constraint_bytes`.
pub mod Both
pub mod Values
