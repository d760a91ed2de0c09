-- Laws of the module `constraint`.
pub mod Parts
pub mod Places
