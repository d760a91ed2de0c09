-- The laws of the module file.
pub mod Numbering
