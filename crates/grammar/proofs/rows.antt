-- Laws of the module `rows`.
pub mod Measured
