-- The laws of the module lower.
pub mod Lowering
