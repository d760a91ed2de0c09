-- The definitions of the module shelves.
pub mod Refused
pub mod Calls
pub mod Samples
