-- Definitions of the module `link`.
pub mod Link
pub mod Grounds
