-- Laws of the module `point`.
pub mod Cuts
pub mod Steps
