-- The laws of the module elements.
pub mod Writing
pub mod Pieces
