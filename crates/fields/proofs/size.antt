-- The laws of the module size.
pub mod Bytes
pub mod Nibbles
