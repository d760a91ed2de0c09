-- The laws of the module words.
pub mod Putting
pub mod Signs
pub mod Spelling
