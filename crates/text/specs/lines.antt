-- The definitions of the module lines.
pub mod Lines
