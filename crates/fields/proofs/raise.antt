-- The laws of the module raise.
pub mod Raised
