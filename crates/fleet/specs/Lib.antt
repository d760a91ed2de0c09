pub mod Fleet
pub mod internal
