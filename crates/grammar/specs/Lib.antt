pub mod internal
pub mod journey
pub mod link
pub mod segment
