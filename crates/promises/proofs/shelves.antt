-- The laws of the module shelves.
pub mod Calls
pub mod Grounds
pub mod Reached
